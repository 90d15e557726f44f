-- What a text is read as keeps the rules of the language, token by token.
use Rattle.std.proofs.Common.{◌≡◌, ◌<◌, ◌≤◌, ◌+◌, ◌*◌, ◌==◌, ℕ, zero, suc, Bool, true, false, not, ◌&&◌, ℤ, pos, neg_ℤ, List, [], ◌∷◌, ◌++◌, length, Option, Some, None, Result, Ok, Err, if◌then◌else◌, refl, ap, sym, ◌∙◌, subst, arith, length-append, ltb-true}
use Rattle.std.specs.Prelude.{nat_lt, nat_le, map}
use Rattle.std.proofs.lemmas.Bool.{leb-true}
use Rattle.std.proofs.lemmas.List.{length-map}
use Rattle.msl_lex.specs.Lexemes.{Form, Lexeme, word, number, sign, close, greatest_number}
use Rattle.msl_lex.specs.declared.kind.Kind.{Kind}
use Rattle.msl_lex.specs.declared.kind.Kind.TheVariants as kind
use Rattle.msl_lex.specs.declared.token.LexFault.{LexFault}
use Rattle.msl_lex.specs.declared.token.LexFault.TheVariants as fault
use Rattle.msl_ops.specs.declared.op.Op.{Op}
use Rattle.msl_ops.specs.declared.op.OpKind.{OpKind}
use Rattle.msl_ops.specs.declared.op.OpKind.TheVariants as opkind
use Rattle.msl_ops.specs.Table.{rows, kind_named}
use Rattle.msl_fun.specs.declared.funs.Fun.{Fun}
use Rattle.msl_base.specs.Names.{Text, is_among}
use Rattle.msl_lex.specs.Names.{is_name}
use Rattle.msl_fun.specs.Checks.{names_of}
use Rattle.msl_read.specs.Front.{name_in}
use Rattle.msl_base.specs.Names.{place_among}
use Rattle.msl_fun_read.specs.Grammar as fun_grammar
use Rattle.msl_read.specs.Reading.{Refusal, Test, test, Move, takes, ends, stops, failing, ahead, moved, or_refusal}
use Rattle.msl_base.proofs.Names.{has_place}
use Rattle.msl_program.specs.Script.{Script}
use Rattle.msl_program.specs.declared.stage.Stage.{Stage}
use Rattle.msl_program.specs.declared.stage.Stage.TheVariants.{Atomic, Filter, Data, DivCon, Bnb}
use Rattle.msl_program.specs.declared.data.Arg.{Arg}
use Rattle.msl_program.specs.declared.data.Arg.TheVariants as arg
use Rattle.msl_program.specs.declared.data.UseSpec.{UseSpec}
use Rattle.msl_program.specs.declared.data.DataLine.{DataLine}
use Rattle.msl_program.specs.declared.data.DataStep.{DataStep}
use Rattle.msl_program.specs.declared.data.DataStep.TheVariants as step
use Rattle.msl_program.specs.Known.{Known}
use Rattle.msl_program.specs.declared.nest.Nest.{Nest}
use Rattle.msl_program.specs.declared.nest.Counts.{Counts}
use Rattle.msl_program.specs.Programs.{Program}
use Rattle.msl_grammar.specs.declared.used.Used.{Used}
use Rattle.msl_program.specs.declared.shape.Shape.{Shape}
use Rattle.msl_program.specs.declared.shape.Shape.TheVariants as shape
use Rattle.msl_program.specs.declared.shape.Need.{Need}
use Rattle.msl_program.specs.declared.shape.Need.TheVariants as need
use Rattle.msl_program.specs.declared.width.Width.{Width}
use Rattle.msl_program.specs.Stages.{pipe, primitives_of}
use Rattle.msl_program.specs.Known.{nothing_known, data_names, divcon_names, bnb_names, is_declared, with_fun, with_data, with_filter, with_divcon, with_bnb}
use Rattle.msl_grammar.specs.Known.{place}
use Rattle.msl_fun.specs.Meaning.{params_of, results_of}
use Rattle.msl_program.specs.Widths.{allows, IsFunction}
use Rattle.msl_ops.specs.Operators.{has_modulus, op_of}
use Rattle.msl_program.specs.Programs.{no_lines, with_line, line_names, suits, turned, blocks_of, given}
use Rattle.msl_grammar.specs.Uses.{shape_of, used, use_spec, use_fits}
use Rattle.msl_grammar.specs.ScriptGrammar.{State, Turn, filter_rule, divcon_rule, bnb_rule, data_rule, give_rule, line_rest, one_arg, Step, part_rule, array_rule, matrix_rule, with_one, with_two, fold_rule, scan_rule, foldl_rule, broadcast_rule, transpose_rule, step_by, with_modulus, operator_by, operator_turn, one_primitive, one_filter, one_deeper, few_primitives, nest_test, on_members, atomic_rule, filter_stage_rule, farm_rule, pipe_rule, stage_turn, few_items, of_fun, outermost, no_stages, main_rule, items_turn, name_turn, number_turn, integer_turn, is_between, of_kind, fun_place, function_tests, line_tests, line_found, arg_turn, close_turn, on, reading, script_rule, whole, of_tokens, ReadsAs, token, version, a_fun, fresh, a_function, a_definition, a_number, a_natural, a_placed_number, an_integer, items, a_state_number, more_state_numbers, lines, a_step, maybe_part, a_size, a_use_name, maybe_args, more_args, an_arg, a_line, a_container, a_block_of, an_operator, a_stage, more_stages, finish}
use Rattle.msl_program.specs.Known.{script_of}
use Rattle.msl_lex.specs.Spelling.{IsSpelt, AreSpelt, IsInteger, AreIntegers}
use Rattle.msl_program.specs.ProgramPromise.{shape_at, shape_after, one_line, program_of, IsLine, IsArgument, AreArguments, IsUse, IsOperator, IsBetween, IsPlace, IsStep, LineFits, EachLineFits}
use Rattle.msl_program.specs.ScriptPromise.{Item, fun_item, data_item, filter_item, divcon_item, bnb_item, with_item, with_items, built, ItemFits, EachFits, filters_of, height, IsSized, IsScript}
use Rattle.msl_lex.proofs.Spelt.{AllSpelt, of_layout}
use Rattle.msl_script_read.proofs.WholeFunctions.{FunLeads, FunTurns, IsWholeFun, first_test, spelt_name, placed, fun_leads_on}
use Rattle.msl_script_read.proofs.WholeStages.{FitsIn, of_main, IsStage, AreStages, first_stage, one_stage, of_pipe, of_farm}

-- ---- tests

both : (a b : Bool) → (a && b) ≡ true → (a ≡ true) × (b ≡ true)
both true true h = (refl, refl)
both true false h = cc
both false b h = cc

not_true : (b : Bool) → not b ≡ true → b ≡ false
not_true true h = cc
not_true false h = refl

module _ (k j i : Kind) (at before behind : ℕ) where
  two_tests : (a b : Bool) → failing (test k at a ∷ test j before b ∷ []) ≡ None → (a ≡ true) × (b ≡ true)
  two_tests true true h = (refl, refl)
  two_tests true false h = cc
  two_tests false b h = cc

  three_tests : (a b c : Bool) → failing (test k at a ∷ test j before b ∷ test i behind c ∷ []) ≡ None → (a ≡ true) × (b ≡ true) × (c ≡ true)
  three_tests true true true h = (refl, refl, refl)
  three_tests true true false h = cc
  three_tests true false c h = cc
  three_tests false b c h = cc

between : (low high v : ℕ) → is_between low high v ≡ true → IsBetween low high v
between low high v h = let b = both (nat_le low v) (nat_le v high) h in (leb-true low v b.0, leb-true v high b.1)

-- ---- definitions

-- what is known is made by definitions that fit
record IsBuilt (m : Known) : Type 0 where
  items : List Item
  is : m ≡ built items
  each : EachFits nothing_known items

with_more : (m : Known) (known : List Item) (i : Item) → with_items m (known ++ i ∷ []) ≡ with_item (with_items m known) i
with_more m [] i = refl
with_more m (j ∷ known) i = with_more (with_item m j) known i

each_more : (m : Known) (known : List Item) (i : Item) → EachFits m known → ItemFits (with_items m known) i → EachFits m (known ++ i ∷ [])
each_more m [] i h f = (f, tt)
each_more m (j ∷ known) i h f = (h.0, each_more (with_item m j) known i h.1 f)

one_item : (m : Known) (i : Item) → IsBuilt m → ItemFits m i → IsBuilt (with_item m i)
one_item m i b f = record {
  items = b.items ++ i ∷ [];
  is = ap (λ m. with_item m i) b.is ∙ sym (with_more nothing_known b.items i);
  each = each_more nothing_known b.items i b.each (subst (λ m. ItemFits m i) b.is f);
}

is_script : (m : Known) (c : Counts) (st : Stage) → IsBuilt m → IsStage m outermost no_stages c st → IsScript (script_of m st)
is_script m c st b h = record {
  items = b.items;
  each = b.each;
  is = ap (λ m. script_of m st) b.is;
  whole = of_main m st false st h.fits;
  main = record {
    sized = h.sized;
    few_primitives = omega (arith, h.primitives, h.few_primitives);
    few_filters = let few : c.filters ≤ 4 = h.few_filters (omega arith) in omega (arith, h.filters);
    low = let low : 0 + height st ≤ 4 = h.low (omega arith) in omega arith;
  };
}

-- ---- state numbers

record AreStates (zs : List ℤ) : Type 0 where
  some : 1 ≤ length zs
  few : length zs ≤ 8
  integers : AreIntegers zs

integers_more : (zs : List ℤ) (z : ℤ) → AreIntegers zs → IsInteger z → AreIntegers (zs ++ z ∷ [])
integers_more [] z h g = (g, tt)
integers_more (y ∷ zs) z h g = (h.0, integers_more zs z h.1 g)

one_state : (zs : List ℤ) (z : ℤ) → AreStates zs → length zs < 8 → IsInteger z → AreStates (zs ++ z ∷ [])
one_state zs z h few g = record {
  some = omega (arith, length-append zs (z ∷ []));
  few = omega (arith, length-append zs (z ∷ []));
  integers = integers_more zs z h.integers g;
}

-- ---- lines

-- lines that fit, one behind the other
record AreLines (m : Known) (p : Program) : Type 0 where
  is : p ≡ program_of no_lines p.lines
  each : EachLineFits m.funs no_lines p.lines
  few : length p.lines ≤ 64

lines_more : (p : Program) (ls : List DataLine) (l : DataLine) → program_of p (ls ++ l ∷ []) ≡ one_line (program_of p ls) l
lines_more p [] l = refl
lines_more p (k ∷ ls) l = lines_more (one_line p k) ls l

each_line_more : (m : Known) (p : Program) (ls : List DataLine) (l : DataLine) → EachLineFits m.funs p ls → LineFits m.funs (program_of p ls) l → EachLineFits m.funs p (ls ++ l ∷ [])
each_line_more m p [] l h f = (f, tt)
each_line_more m p (k ∷ ls) l h f = (h.0, each_line_more m (one_line p k) ls l h.1 f)

one_line_more : (m : Known) (p : Program) (l : DataLine) → AreLines m p → length p.lines < 64 → LineFits m.funs p l → AreLines m (one_line p l)
one_line_more m p l h few f = record {
  is = ap (λ p. one_line p l) h.is ∙ sym (lines_more no_lines p.lines l);
  each = each_line_more m no_lines p.lines l h.each (subst (λ p. LineFits m.funs p l) h.is f);
  few = omega (arith, length-append p.lines (l ∷ []));
}

-- a line that is such, with what it is
record IsFound (p : Program) (needed : Need) (l : ℕ × Shape) : Type 0 where
  line : IsLine p needed l.0
  is : l.1 ≡ shape_at p l.0

-- a function with more arguments
record HasMore (p : Program) (u w : Used) : Type 0 where
  fun : w.fun ≡ u.fun
  args : AreArguments p w.args

args_more : (p : Program) (args : List Arg) (a : Arg) → AreArguments p args → IsArgument p a → AreArguments p (args ++ a ∷ [])
args_more p [] a h g = (g, tt)
args_more p (b ∷ args) a h g = (h.0, args_more p args a h.1 g)

-- ---- what each state leads to

-- each script that is read from the state on keeps the rules, where the parts that are still to come are what they are tested for
abbrev Leads : State → Type 0
Leads (token text s) = Leads s
Leads (version s) = Leads s
Leads (a_fun m x k) = FunLeads m.funs m.others x × ((f : Fun) → IsWholeFun m.funs m.others f → Leads (k f))
Leads (fresh m k) = (n : Text) → is_name n ≡ true → is_declared m n ≡ false → Leads (k n)
Leads (a_function m params results k) = (f : ℕ) → IsFunction m.funs params results f → Leads (k f)
Leads (a_definition m names k) = (d : ℕ) → d < length names → Leads (k d)
Leads (a_number low high k) = (v : ℕ) → IsBetween low high v → Leads (k v)
Leads (a_natural k) = (v : ℕ) → v ≤ greatest_number → Leads (k v)
Leads (a_placed_number k) = (v : ℕ × ℕ) → Leads (k v)
Leads (an_integer k) = (z : ℤ) → IsInteger z → Leads (k z)
Leads (items m) = IsBuilt m
Leads (a_state_number zs k) = (z : ℤ) → IsInteger z → length zs < 8 → Leads (k z)
Leads (more_state_numbers zs k) = AreStates zs × ((all : List ℤ) → AreStates all → Leads (k all))
Leads (lines m p k) = AreLines m p × ((r : Program × ℕ) → AreLines m r.0 → r.1 < length (r.0).lines → Leads (k r))
Leads (a_step m p k) = (r : Step) → IsStep m.funs p r.0 → r.1 ≡ shape_after p r.0 → Leads (k r)
Leads (maybe_part b k) = Leads (k (step.Array b, shape.Array b)) × ((at len : ℕ) → IsPlace at → IsPlace len → Leads (k (step.ArrayAt b at len, shape.Array b)))
Leads (a_size most before k) = (v : ℕ) → IsBetween 1 1048576 v → before * v ≤ most → Leads (k v)
Leads (a_use_name m k) = (u : Used) → u.fun < length m.funs → u.args ≡ [] → Leads (k u)
Leads (maybe_args p u k) = AreArguments p u.args × ((w : Used) → HasMore p u w → Leads (k w))
Leads (more_args p u k) = AreArguments p u.args × ((w : Used) → HasMore p u w → Leads (k w))
Leads (an_arg p k) = (a : Arg) → IsArgument p a → Leads (k a)
Leads (a_line p needed k) = (l : ℕ × Shape) → IsFound p needed l → Leads (k l)
Leads (a_container m p u needed for_array for_matrix k) = (l : ℕ × Shape) → IsFound p needed l → use_fits m.funs u (given for_array for_matrix l.1) ≡ true → Leads (k l)
Leads (a_block_of p b k) = (l : ℕ × Shape) → IsFound p need.Array l → b.0 < blocks_of l.1 → Leads (k l)
Leads (an_operator k) = (op : Op) → IsOperator op → Leads (k op)
Leads (a_stage m nest c k) = (r : Counts × Stage) → IsStage m nest c r.0 r.1 → Leads (k r)
Leads (more_stages m nest c ss k) = (before : Counts) × AreStages m nest before c ss × ((d : Counts) (all : List Stage) → AreStages m nest before d all → Leads (k (d, pipe all)))
Leads (finish s) = IsScript s

abbrev LeadsOn : Turn → Type 0
LeadsOn (takes due s) = failing due ≡ None → Leads s
LeadsOn (ends s) = IsScript s
LeadsOn stops = Unit {0}

record Turns (x : Turn) : Type 0 where
  leads : LeadsOn x

stopped : Turns stops
stopped = record { leads = tt }

-- at a word one state, and else another turn
at_word : (b : Bool) (due : List Test) (s : State) (y : Turn) → (failing due ≡ None → Leads s) → Turns y → Turns (if b then takes due s else y)
at_word true due s y h g = record { leads = h }
at_word false due s y h g = g

or_else : (b : Bool) (x y : Turn) → Turns x → Turns y → Turns (if b then x else y)
or_else true x y h g = h
or_else false x y h g = g

-- ---- names and numbers

by_name : (due : Text → List Test) (f : Form) (k : Text → State) → IsSpelt f → ((n : Text) → is_name n ≡ true → failing (due n) ≡ None → Leads (k n)) → Turns (name_turn due (name_in f) k)
by_name due f k spelt h = by (name_in f) refl
  where
    by : (o : Option Text) → name_in f ≡ o → Turns (name_turn due o k)
    by None is = stopped
    by (Some n) is = record { leads = h n (spelt_name f n spelt is) }

by_number : (due : ℕ → List Test) (f : Form) (k : ℕ → State) → IsSpelt f → ((v : ℕ) → v ≤ greatest_number → failing (due v) ≡ None → Leads (k v)) → Turns (number_turn due f k)
by_number due (number v) k spelt h = record { leads = h v spelt }
by_number due (word w) k spelt h = stopped
by_number due (sign w) k spelt h = stopped
by_number due close k spelt h = stopped

negated : (v : ℕ) → v ≤ greatest_number → IsInteger (neg_ℤ (pos v))
negated zero h = h
negated (suc v) h = h

by_integer : (due : List Test) (f : Form) (k : ℤ → State) → IsSpelt f → (failing due ≡ None → (z : ℤ) → IsInteger z → Leads (k z)) → Turns (integer_turn due f k)
by_integer due f k spelt h =
    at_word _ due (a_natural (λ v. k (neg_ℤ (pos v)))) _ (λ none v few. h none _ (negated v few)) (by_number (λ v. due) f (λ v. k (pos v)) spelt (λ v few none. h none (pos v) few))

-- ---- what is named

place_within : (names : List Text) (n : Text) → is_among names n ≡ true → place names n < length names
place_within names n h = placed names n (place_among names n) 0 refl (has_place names n ∙ h)

as_many : {A : Type 0} (f : A → Text) (xs : List A) (d : ℕ) → d < length (map f xs) → d < length xs
as_many f xs d h = subst (λ n. d < n) (length-map xs f) h

module _ (m : Known) where
  fun_within : (n : Text) → is_among (names_of m.funs) n ≡ true → fun_place m n < length m.funs
  fun_within n h = as_many (λ f. f.name) m.funs _ (place_within (names_of m.funs) n h)

  is_function : (params results : Width) (at : ℕ) (n : Text) → failing (function_tests m params results at n) ≡ None → IsFunction m.funs params results (fun_place m n)
  is_function params results at n h =
      let t = three_tests kind.Unknown kind.WrongKind kind.Width at at at _ (is_among (names_of m.funs) n) (allows params (params_of m.funs (fun_place m n)) && allows results (results_of m.funs (fun_place m n))) h in
      let w = both _ _ t.2 in
      record { within = fun_within n t.1; params = w.0; results = w.1 }

  is_use : (p : Program) (u w : Used) (more : ℕ) → u.fun < length m.funs → HasMore p u w → use_fits m.funs w more ≡ true → IsUse m.funs p more (use_spec w)
  is_use p u w more within h fits =
      let b = both _ _ fits in
      record { function = record { within = subst (λ f. f < length m.funs) (sym h.fun) within; params = b.0; results = b.1 }; args = h.args }

line_within : (p : Program) (n : Text) → is_among (line_names p) n ≡ true → place (line_names p) n < length p.lines
line_within p n h = as_many (λ l. l.name) p.lines _ (place_within (line_names p) n h)

is_found : (p : Program) (needed : Need) (n : Text) → is_among (line_names p) n ≡ true → suits needed (shape_of p n) ≡ true → IsFound p needed (line_found p n)
is_found p needed n among such = record { line = record { within = line_within p n among; suits = such }; is = refl }

by_arg : (p : Program) (t : Lexeme) (k : Arg → State) → IsSpelt t.form → ((a : Arg) → IsArgument p a → Leads (k a)) → Turns (arg_turn (name_in t.form) p t k)
by_arg p t k spelt h = by (name_in t.form)
  where
    by : (o : Option Text) → Turns (arg_turn o p t k)
    by (Some n) = record {
      leads = λ due.
          let d = two_tests kind.Unknown kind.WrongKind kind.Range t.at t.at t.at (is_among (line_names p) n) (suits need.Number (shape_of p n)) due in
          h _ (is_found p need.Number n d.0 d.1).line;
    }
    by None = by_integer [] t.form (λ z. k (arg.Lit z)) spelt (λ none z is. h _ is)

-- ---- steps

same_given : (n : ℕ) (s : Shape) → given n n s ≡ n
same_given n (shape.Array b) = refl
same_given n (shape.Matrix r c p q) = refl
same_given n shape.Number = refl

module _ (m : Known) (p : Program) (k : Step → State) (h : (r : Step) → IsStep m.funs p r.0 → r.1 ≡ shape_after p r.0 → Leads (k r)) where
  -- a function and the line that it works on
  by_one : (needed : Need) (for_array for_matrix : ℕ) (make : UseSpec → ℕ → DataStep)
      → ((u : UseSpec) (l : ℕ) → IsUse m.funs p (given for_array for_matrix (shape_at p l)) u → IsLine p needed l → IsStep m.funs p (make u l))
      → ((u : UseSpec) (l : ℕ) → shape_after p (make u l) ≡ shape_at p l)
      → Leads (with_one m p needed for_array for_matrix make k)
  by_one needed for_array for_matrix make is same u within none = (
    subst (AreArguments p) (sym none) tt,
    λ w more l found fits.
        let uses = is_use m p u w _ within more fits in
        h _ (is _ _ (subst (λ s. IsUse m.funs p (given for_array for_matrix s) (use_spec w)) found.is uses) found.line) (found.is ∙ sym (same _ _)),
  )

  -- a function and the two lines that it works on
  by_two : (for_array for_matrix : ℕ) (make : UseSpec → ℕ → ℕ → DataStep)
      → ((u : UseSpec) (l o : ℕ) → IsUse m.funs p (given for_array for_matrix (shape_at p l)) u → IsLine p need.Container l → IsLine p (need.Like (shape_at p l)) o → IsStep m.funs p (make u l o))
      → ((u : UseSpec) (l o : ℕ) → shape_after p (make u l o) ≡ shape_at p l)
      → Leads (with_two m p for_array for_matrix make k)
  by_two for_array for_matrix make is same u within none = (
    subst (AreArguments p) (sym none) tt,
    λ w more l found fits o like.
        let uses = is_use m p u w _ within more fits in
        h _ (is _ _ _ (subst (λ s. IsUse m.funs p (given for_array for_matrix s) (use_spec w)) found.is uses) found.line (subst (λ s. IsLine p (need.Like s) o.0) found.is like.line)) (found.is ∙ sym (same _ _ _)),
  )

  by_foldl : Leads (foldl_rule m p k)
  by_foldl u within none = (
    subst (AreArguments p) (sym none) tt,
    λ w more first is l found fits.
        let uses = is_use m p u w _ within more fits in
        h _ (subst (λ n. IsUse m.funs p n (use_spec w)) (same_given 2 l.1) uses, is, found.line) refl,
  )

  -- where arrays and matrices give as many arguments
  same_use : (n : ℕ) (u : UseSpec) (l : ℕ) → IsUse m.funs p (given n n (shape_at p l)) u → IsUse m.funs p n u
  same_use n u l uses = subst (λ n. IsUse m.funs p n u) (same_given n (shape_at p l)) uses

  by_step : (f : Form) → Turns (step_by f m p k)
  by_step f =
      at_word _ [] (array_rule k) _ (λ _ b is. (h _ is refl, λ at len has_at has_len. h _ (is, has_at, has_len) refl)) (
      at_word _ [] (matrix_rule k) _ (λ _ r hr c hc few gr hgr gc hgc few_blocks at hat. h _ ((hr, hc, few), (hgr, hgc, few_blocks), hat.1) refl) (
      at_word _ [] (with_one m p need.Container 1 1 step.Map k) _ (λ _. by_one need.Container 1 1 step.Map (λ u l uses is. (same_use 1 u l uses, is)) (λ u l. refl)) (
      at_word _ [] (with_one m p need.Container 2 3 step.MapIndex k) _ (λ _. by_one need.Container 2 3 step.MapIndex (λ u l uses is. (uses, is)) (λ u l. refl)) (
      at_word _ [] (with_two m p 2 2 step.Zip k) _ (λ _. by_two 2 2 step.Zip (λ u l o uses is like. (same_use 2 u l uses, is, like)) (λ u l o. refl)) (
      at_word _ [] (with_two m p 3 4 step.ZipIndex k) _ (λ _. by_two 3 4 step.ZipIndex (λ u l o uses is like. (uses, is, like)) (λ u l o. refl)) (
      at_word _ [] (fold_rule p k) _ (λ _ op is l found. h _ (is, found.line) refl) (
      at_word _ [] (scan_rule p k) _ (λ _ op is l found. h _ (is, found.line) found.is) (
      at_word _ [] (foldl_rule m p k) _ (λ _. by_foldl) (
      at_word _ [] (with_one m p need.Array 1 1 step.PermutePartition k) _ (λ _. by_one need.Array 1 1 step.PermutePartition (λ u l uses is. (same_use 1 u l uses, is)) (λ u l. refl)) (
      at_word _ [] (with_one m p need.Array 1 1 step.Permute k) _ (λ _. by_one need.Array 1 1 step.Permute (λ u l uses is. (same_use 1 u l uses, is)) (λ u l. refl)) (
      at_word _ [] (broadcast_rule p k) _ (λ _ b l found few. h _ (found.line, subst (λ s. b.0 < blocks_of s) found.is few) found.is) (
      at_word _ [] (with_one m p need.Matrix 1 1 step.RotateRows k) _ (λ _. by_one need.Matrix 1 1 step.RotateRows (λ u l uses is. (same_use 1 u l uses, is)) (λ u l. refl)) (
      at_word _ [] (with_one m p need.Matrix 1 1 step.RotateCols k) _ (λ _. by_one need.Matrix 1 1 step.RotateCols (λ u l uses is. (same_use 1 u l uses, is)) (λ u l. refl)) (
      at_word _ [] (transpose_rule p k) _ (λ _ l found. h _ found.line (ap turned found.is)) stopped))))))))))))))

-- ---- operators

is_operator : (o : OpKind) (v : ℕ) → IsOperator (op_of o v)
is_operator opkind.Sum v h = refl
is_operator opkind.Min v h = refl
is_operator opkind.Max v h = refl
is_operator opkind.And v h = refl
is_operator opkind.Or v h = refl
is_operator opkind.Xor v h = refl
is_operator opkind.Gcd v h = refl
is_operator opkind.AddMod v h = cc
is_operator opkind.MulMod v h = cc

by_modulus : (b : Bool) (o : OpKind) (k : Op → State) → ((op : Op) → IsOperator op → Leads (k op)) → Leads (with_modulus b o k)
by_modulus true o k h = λ v between. h _ (is_operator o v)
by_modulus false o k h = h _ (is_operator o 1)

by_kind : (o : Option OpKind) (at : ℕ) (k : Op → State) → ((op : Op) → IsOperator op → Leads (k op)) → Turns (operator_by o at k)
by_kind None at k h = record { leads = λ due. cc }
by_kind (Some o) at k h = record { leads = λ _. by_modulus (has_modulus o) o k h }

by_operator : (f : Form) (at : ℕ) (k : Op → State) → ((op : Op) → IsOperator op → Leads (k op)) → Turns (operator_turn f at k)
by_operator (word w) at k h = by_kind (kind_named rows w) at k h
by_operator (number v) at k h = stopped
by_operator (sign w) at k h = stopped
by_operator close at k h = stopped

-- ---- stages

module _ (m : Known) (nest : Nest) (c : Counts) where
  -- a stage that is no filter, and no farm or pipe
  primitive : (st : Stage) → c.primitives < 64 → FitsIn m nest.in_farm st → IsSized st → primitives_of st ≡ 1 → filters_of st ≡ 0 → height st ≡ 0 → IsStage m nest c (one_primitive c) st
  primitive st few fits sized one none low = record {
    fits = fits;
    sized = sized;
    primitives = omega arith;
    filters = omega arith;
    few_primitives = omega arith;
    few_filters = λ h. h;
    low = λ h. omega arith;
  }

  a_filter : (f : ℕ) → nest.in_farm ≡ false → c.primitives < 64 → c.filters < 4 → f < length m.filters → IsStage m nest c (one_filter c) (Filter f)
  a_filter f open_air few few_filters within = record {
    fits = (open_air, within);
    sized = tt;
    primitives = omega arith;
    filters = omega arith;
    few_primitives = omega arith;
    few_filters = λ h. omega arith;
    low = λ h. omega arith;
  }

  few_here : (at : ℕ) → failing (few_primitives c at ∷ []) ≡ None → c.primitives < 64
  few_here at due = ltb-true c.primitives 64 (first_test kind.Many at (nat_lt c.primitives 64) [] due).0

  few_open : (at : ℕ) → failing (nest_test nest at) ≡ None → nest.opened < 4
  few_open at due = ltb-true nest.opened 4 (first_test kind.Deep at (nat_lt nest.opened 4) [] due).0

  by_stage : (t : Lexeme) (k : Counts × Stage → State) → ((r : Counts × Stage) → IsStage m nest c r.0 r.1 → Leads (k r)) → Turns (stage_turn m nest c t k)
  by_stage t k h =
      let few : List Test = few_primitives c t.at ∷ [] in
      let filters : List Test = test kind.InFarm t.at (not nest.in_farm) ∷ few_primitives c t.at ∷ test kind.Many t.at (nat_lt c.filters 4) ∷ [] in
      let one : Stage → State = λ s. k (one_primitive c, s) in
      at_word _ few (atomic_rule m one) _ (λ due f is. h _ (primitive (Atomic f) (few_here t.at due) is.within tt refl refl refl)) (
      at_word _ filters (filter_stage_rule m (λ s. k (one_filter c, s))) _
      (λ due d is.
      let each = three_tests kind.InFarm kind.Many kind.Many t.at t.at t.at (not nest.in_farm) (nat_lt c.primitives 64) (nat_lt c.filters 4) due in
      h _ (a_filter d (not_true nest.in_farm each.0) (ltb-true _ 64 each.1) (ltb-true _ 4 each.2) (as_many (λ f. f.name) m.filters d is))) (
      at_word _ few (on_members m (data_names m) Data one) _ (λ due d is v between. h _ (primitive (Data d v) (few_here t.at due) (as_many (λ p. p.name) m.datas d is) between refl refl refl)) (
      at_word _ few (on_members m (divcon_names m) DivCon one) _ (λ due d is v between. h _ (primitive (DivCon d v) (few_here t.at due) (as_many (λ p. p.name) m.divcons d is) between refl refl refl)) (
      at_word _ few (on_members m (bnb_names m) Bnb one) _ (λ due d is v between. h _ (primitive (Bnb d v) (few_here t.at due) (as_many (λ p. p.name) m.bnbs d is) between refl refl refl)) (
      at_word _ (nest_test nest t.at) (farm_rule m nest c k) _ (λ due v between r is. h _ (of_farm m nest c r.0 v r.1 (few_open t.at due) between is)) (
      at_word _ (nest_test nest t.at) (pipe_rule m nest c k) _
      (λ due r is. (c, first_stage m (one_deeper nest) c r.0 r.1 is, λ d all are. h _ (of_pipe m nest c d all (few_open t.at due) are))) stopped))))))

-- ---- items

module _ (m : Known) where
  by_fun : (x : Move fun_grammar.State Fun) (k : Fun → State) (behind : Fun → Turn) → FunTurns m.funs m.others x
      → ((f : Fun) → IsWholeFun m.funs m.others f → Leads (k f)) → ((f : Fun) → IsWholeFun m.funs m.others f → Turns (behind f)) → Turns (of_fun m x k behind)
  by_fun (takes due x) k behind turns h g = record { leads = λ none. (turns.leads none, h) }
  by_fun (ends f) k behind turns h g = g f turns.leads
  by_fun stops k behind turns h g = stopped

  few_defined : (n at : ℕ) → failing (few_items n at) ≡ None → n < 64
  few_defined n at due = ltb-true n 64 (first_test kind.Many at (nat_lt n 64) [] due).0

  module _ (built : IsBuilt m) where
    by_data : length m.datas < 64 → Leads (data_rule m (λ d. items (with_data m d)))
    by_data few name named new = (
      record { is = refl; each = tt; few = omega arith },
      λ r are within. one_item m (data_item (record { name = name; lines = (r.0).lines; give = r.1 })) built
          (record { name = named; is_new = new }, record { few_lines = are.few; lines = are.each; gives = within }, few),
    )

    by_filter : length m.filters < 64 → Leads (filter_rule m (λ f. items (with_filter m f)))
    by_filter few name named new z is = (
      record { some = omega arith; few = omega arith; integers = (is, tt) },
      λ zs are count hc item hi next hn flush hf last hl. one_item m
          (filter_item (record { name = name; state = zs; count = count; item = item; next = next; flush = flush; last = last })) built (
            record { name = named; is_new = new },
            record { some_state = are.some; few_state = are.few; state = are.integers; count = hc; item = hi; next = hn; flush = hf; last = hl },
            few,
          ),
    )

    by_divcon : length m.divcons < 64 → Leads (divcon_rule m (λ d. items (with_divcon m d)))
    by_divcon few name named new parts hp cutoff ht simple hs solve hv divide hd combine hc =
        one_item m (divcon_item (record { name = name; parts = parts; cutoff = cutoff; simple = simple; solve = solve; divide = divide; combine = combine })) built
        (record { name = named; is_new = new }, record { some_parts = hp.0; few_parts = hp.1; cutoff = ht.1; simple = hs; solve = hv; divide = hd; combine = hc }, few)

    by_bnb : length m.bnbs < 64 → Leads (bnb_rule m (λ b. items (with_bnb m b)))
    by_bnb few name named new bound hb solved hs value hv count hc branch hr =
        one_item m (bnb_item (record { name = name; bound = bound; solved = solved; value = value; count = count; branch = branch })) built
        (record { name = named; is_new = new }, record { bound = hb; solved = hs; value = hv; count = hc; branch = hr }, few)

    by_items : (t behind : Lexeme) → IsSpelt t.form → Turns (items_turn m t behind)
    by_items t behind spelt =
        or_else _ _ _
        (by_fun (fun_grammar.on m.funs m.others fun_grammar.fun t behind) (λ f. items (with_fun m f)) (λ f. stops) (fun_leads_on m.funs m.others fun_grammar.fun t behind spelt tt)
        (λ f is. one_item m (fun_item f) built (is.follows, is.new)) (λ f is. stopped)) (
        at_word _ (few_items (length m.datas) t.at) (data_rule m (λ d. items (with_data m d))) _ (λ due. by_data (few_defined _ t.at due)) (
        at_word _ (few_items (length m.filters) t.at) (filter_rule m (λ f. items (with_filter m f))) _ (λ due. by_filter (few_defined _ t.at due)) (
        at_word _ (few_items (length m.divcons) t.at) (divcon_rule m (λ d. items (with_divcon m d))) _ (λ due. by_divcon (few_defined _ t.at due)) (
        at_word _ (few_items (length m.bnbs) t.at) (bnb_rule m (λ b. items (with_bnb m b))) _ (λ due. by_bnb (few_defined _ t.at due)) (
        at_word _ [] (main_rule m) _ (λ _ r is. is_script m r.0 r.1 built is) stopped)))))

by_close : (f : Form) (s : Script) → IsScript s → Turns (close_turn f s)
by_close close s h = record { leads = h }
by_close (word w) s h = stopped
by_close (number v) s h = stopped
by_close (sign w) s h = stopped

-- ---- each token

leads_on : (s : State) (t behind : Lexeme) → IsSpelt t.form → Leads s → Turns (on s t behind)
leads_on (token text s) t behind spelt h = at_word _ [] s _ (λ _. h) stopped
leads_on (version s) t behind spelt h = by_number (λ v. test kind.Version t.at (v == 1) ∷ []) t.form (λ v. s) spelt (λ v few due. h)
leads_on (a_fun m x k) t behind spelt h =
    by_fun m (fun_grammar.on m.funs m.others x t behind) k (λ f. on (k f) t behind) (fun_leads_on m.funs m.others x t behind spelt h.0) h.1 (λ f is. leads_on (k f) t behind spelt (h.1 f is))
leads_on (fresh m k) t behind spelt h =
    by_name (λ n. test kind.Twice t.at (not (is_declared m n)) ∷ []) t.form k spelt (λ n named due. h n named (not_true _ (first_test kind.Twice t.at (not (is_declared m n)) [] due).0))
leads_on (a_function m params results k) t behind spelt h =
    by_name (function_tests m params results t.at) t.form (λ n. k (fun_place m n)) spelt (λ n named due. h _ (is_function m params results t.at n due))
leads_on (a_definition m names k) t behind spelt h =
    by_name (of_kind m names t.at) t.form (λ n. k (place names n)) spelt
    (λ n named due. h _ (place_within names n (two_tests kind.Unknown kind.WrongKind kind.Range t.at t.at t.at (is_declared m n) (is_among names n) due).1))
leads_on (a_number low high k) t behind spelt h =
    by_number (λ v. test kind.Range t.at (is_between low high v) ∷ []) t.form k spelt (λ v few due. h v (between low high v (first_test kind.Range t.at (is_between low high v) [] due).0))
leads_on (a_natural k) t behind spelt h = by_number (λ v. []) t.form k spelt (λ v few due. h v few)
leads_on (a_placed_number k) t behind spelt h = by_number (λ v. []) t.form (λ v. k (v, t.at)) spelt (λ v few due. h _)
leads_on (an_integer k) t behind spelt h = by_integer [] t.form k spelt (λ none. h)
leads_on (items m) t behind spelt h = by_items m h t behind spelt
leads_on (a_state_number zs k) t behind spelt h =
    by_integer (test kind.Many t.at (nat_lt (length zs) 8) ∷ []) t.form k spelt (λ due z is. h z is (ltb-true _ 8 (first_test kind.Many t.at (nat_lt (length zs) 8) [] due).0))
leads_on (more_state_numbers zs k) t behind spelt h =
    at_word _ [] (a_state_number zs (λ z. more_state_numbers (zs ++ z ∷ []) k)) _ (λ _ z is few. (one_state zs z h.0 few is, h.1)) (at_word _ [] (k zs) _ (λ _. h.1 zs h.0) stopped)
leads_on (lines m p k) t behind spelt h =
    at_word _ [] (give_rule p k) _ (λ _ l found. h.1 _ h.0 found.line.within)
    (by_name (λ n. test kind.Many t.at (nat_lt (length p.lines) 64) ∷ test kind.Twice t.at (not (is_among (line_names p) n)) ∷ []) t.form
    (λ n. line_rest m p n (λ q. lines m q k)) spelt
    (λ n named due r is shaped.
    let d = two_tests kind.Many kind.Twice kind.Range t.at t.at t.at (nat_lt (length p.lines) 64) (not (is_among (line_names p) n)) due in
    let l : DataLine = record { name = n; step = r.0 } in
    let are = one_line_more m p l h.0 (ltb-true _ 64 d.0) (record { name = named; is_new = not_true _ d.1; step = is }) in
    (subst (λ s. AreLines m (with_line p n r.0 s)) (sym shaped) are, h.1)))
leads_on (a_step m p k) t behind spelt h = by_step m p k h t.form
leads_on (maybe_part b k) t behind spelt h =
    let whole : Step = (step.Array b, shape.Array b) in at_word _ [] (part_rule b k) _ (λ _ at hat len hlen. h.1 at len hat.1 hlen.1) (leads_on (k whole) t behind spelt h.0)
leads_on (a_size most before k) t behind spelt h =
    by_number (λ v. test kind.Range t.at (is_between 1 1048576 v && nat_le (before * v) most) ∷ []) t.form k spelt
    (λ v few due.
    let b = both _ _ (first_test kind.Range t.at (is_between 1 1048576 v && nat_le (before * v) most) [] due).0 in
    h v (between 1 1048576 v b.0) (leb-true _ most b.1))
leads_on (a_use_name m k) t behind spelt h =
    by_name (of_kind m (names_of m.funs) t.at) t.form (λ n. k (used (fun_place m n) t.at)) spelt
    (λ n named due. h _ (fun_within m n (two_tests kind.Unknown kind.WrongKind kind.Range t.at t.at t.at (is_declared m n) (is_among (names_of m.funs) n) due).1) refl)
leads_on (maybe_args p u k) t behind spelt h =
    at_word _ [] (one_arg p u k) _ (λ _ a is. (args_more p u.args a h.0 is, λ w more. h.1 w (record { fun = more.fun; args = more.args })))
    (leads_on (k u) t behind spelt (h.1 u (record { fun = refl; args = h.0 })))
leads_on (more_args p u k) t behind spelt h =
    at_word _ [] (one_arg p u k) _ (λ _ a is. (args_more p u.args a h.0 is, λ w more. h.1 w (record { fun = more.fun; args = more.args })))
    (at_word _ [] (k u) _ (λ _. h.1 u (record { fun = refl; args = h.0 })) stopped)
leads_on (an_arg p k) t behind spelt h = by_arg p t k spelt h
leads_on (a_line p needed k) t behind spelt h =
    by_name (line_tests p needed t.at) t.form (λ n. k (line_found p n)) spelt
    (λ n named due.
    let d = two_tests kind.Unknown kind.WrongKind kind.Range t.at t.at t.at (is_among (line_names p) n) (suits needed (shape_of p n)) due in
    h _ (is_found p needed n d.0 d.1))
leads_on (a_container m p u needed for_array for_matrix k) t behind spelt h =
    by_name (λ n. line_tests p needed t.at n ++ test kind.Width u.at (use_fits m.funs u (given for_array for_matrix (shape_of p n))) ∷ []) t.form (λ n. k (line_found p n)) spelt
    (λ n named due.
    let d = three_tests kind.Unknown kind.WrongKind kind.Width t.at t.at u.at (is_among (line_names p) n) (suits needed (shape_of p n)) (use_fits m.funs u (given for_array for_matrix (shape_of p n))) due in
    h _ (is_found p needed n d.0 d.1) d.2)
leads_on (a_block_of p b k) t behind spelt h =
    by_name (λ n. line_tests p need.Array t.at n ++ test kind.Range b.1 (nat_lt b.0 (blocks_of (shape_of p n))) ∷ []) t.form (λ n. k (line_found p n)) spelt
    (λ n named due.
    let d = three_tests kind.Unknown kind.WrongKind kind.Range t.at t.at b.1 (is_among (line_names p) n) (suits need.Array (shape_of p n)) (nat_lt b.0 (blocks_of (shape_of p n))) due in
    h _ (is_found p need.Array n d.0 d.1) (ltb-true _ _ d.2))
leads_on (an_operator k) t behind spelt h = by_operator t.form t.at k h
leads_on (a_stage m nest c k) t behind spelt h = by_stage m nest c t k h
leads_on (more_stages m nest c ss k) t behind spelt h =
    at_word _ [] (a_stage m nest c (λ r. more_stages m nest r.0 (ss ++ r.1 ∷ []) k)) _ (λ _ r is. (h.0, one_stage m nest h.0 c r.0 ss r.1 h.1 is, h.2))
    (at_word _ [] (k (c, pipe ss)) _ (λ _. h.2 c ss h.1) stopped)
leads_on (finish s) t behind spelt h = by_close t.form s h

-- ---- all tokens

abbrev IsScriptRead : Result (Script × List Lexeme) Refusal → Type 0
IsScriptRead (Ok r) = IsScript r.0
IsScriptRead (Err e) = Unit {0}

after_tests : (o : Option Refusal) (r : Result (Script × List Lexeme) Refusal) → (o ≡ None → IsScriptRead r) → IsScriptRead (or_refusal o r)
after_tests None r h = h refl
after_tests (Some e) r h = tt

after_turn : (x : Turn) (t : Lexeme) (ts : List Lexeme) → LeadsOn x → ((s : State) → Leads s → IsScriptRead (reading ts s)) → IsScriptRead (moved x t ts (reading ts))
after_turn (takes due s) t ts h rest = after_tests (failing due) (reading ts s) (λ none. rest s (h none))
after_turn (ends s) t ts h rest = h
after_turn stops t ts h rest = tt

read_on : (ts : List Lexeme) (s : State) → AreSpelt ts → Leads s → IsScriptRead (reading ts s)
read_on [] s spelt h = tt
read_on (t ∷ ts) s spelt h = after_turn (on s t (ahead t ts)) t ts (leads_on s t (ahead t ts) spelt.0 h).leads (λ s h. read_on ts s spelt.1 h)

abbrev IsScriptFound : Result Script Refusal → Type 0
IsScriptFound (Ok s) = IsScript s
IsScriptFound (Err e) = Unit {0}

of_reading : (r : Result (Script × List Lexeme) Refusal) → IsScriptRead r → IsScriptFound (whole r)
of_reading (Ok r) h = h
of_reading (Err e) h = tt

of_spelt : (ts : List Lexeme) → AreSpelt ts → IsScriptFound (whole (reading ts script_rule))
of_spelt ts spelt = of_reading (reading ts script_rule) (read_on ts script_rule spelt (record { items = []; is = refl; each = tt }))

-- the script that tokens of a text are
pub script_of_tokens : (ts : List Lexeme) (s : Script) → AreSpelt ts → whole (reading ts script_rule) ≡ Ok s → IsScript s
script_of_tokens ts s spelt is = subst IsScriptFound is (of_spelt ts spelt)

of_lexemes : (r : Result (List Lexeme) LexFault) → AllSpelt r → IsScriptFound (of_tokens r)
of_lexemes (Ok ts) spelt = of_spelt ts spelt
of_lexemes (Err (fault.Byte at)) spelt = tt
of_lexemes (Err (fault.LongName at)) spelt = tt
of_lexemes (Err (fault.Number at)) spelt = tt
of_lexemes (Err fault.NoMemory) spelt = tt

pub script_read : (text : List ℕ) (s : Script) → ReadsAs text s → IsScript s
script_read text s is = subst IsScriptFound is.read (of_lexemes is.said (of_layout 0 text is.said is.laid))
