-- Expressions that are printed one after the other are read as they are; so is a call.
use Rattle.std.proofs.Common.{◌≡◌, ◌≤◌, ◌<◌, ℕ, suc, ◌+◌, true, List, [], ◌∷◌, ◌++◌, length, drop, get_or, slice_get, Option, Some, None, option_map, codes, refl, sym, ap, subst, ◌∙◌, arith, append_assoc, append-nil, length-append}
use mathlib.Core.Former.{none_left, this, list}
use Rattle.std.specs.Option.{unwrap_or}
use Rattle.msl_base.specs.declared.limits.TheConstants.{MOST_DEPTH, MOST_OPENED}
use Rattle.msl_lex.specs.Lexemes.{Lexeme, word}
use Rattle.msl_lex.specs.Printing.{Bit}
use Rattle.msl_fun.specs.declared.expr.Expr.{Expr, Row_of-Expr, end_of-Expr, more_of-Expr}
use Rattle.msl_fun.specs.declared.expr.Expr.TheVariants.{Call'}
use Rattle.msl_fun.specs.declared.funs.Fun.{Fun}
use Rattle.msl_fun_read.specs.declared.parse.first.First.TheVariants as first
use Rattle.msl_fun.specs.Shapes.{calling}
use Rattle.msl_base.specs.Names.{Text}
use Rattle.msl_fun.specs.Checks.{AreFuns, names_of, greatest_depth, rank_called_by, rank_of, names_after, names_after_all, count_of, takes, widths_of}
use Rattle.msl_read.specs.Reading.{says, place}
use Rattle.msl_read.specs.Front.{form, form_behind}
use Rattle.msl_fun_read.specs.Grammar.{State, Tree, Callee, expr, arguments, if_shallow, call_of, all_of, fun_at, params_at, reading}
use Rattle.msl_read.specs.Front.{name_in, word_in}
use Rattle.msl_fun.specs.Meaning.{results_of}
use Rattle.msl_fun_read.specs.Parsing.{context}
use Rattle.msl_fun_print.specs.FunText.{mark, listed, names_left, expr_bits, all_bits, opened_all}
use Rattle.msl_fun_read.proofs.Callees.{params_are, passed, widths_are}
use Rattle.msl_fun_read.proofs.Descent.{first_at, begins_unary, unary_call, one_argument_more}
use Rattle.msl_fun.proofs.Functions.{held, parts, takes_is, called, called_within, slice_get_outside}
use Rattle.msl_muscle_laws.proofs.PrintedExprs.{IsScope, shallow_is, Given, AsUnary, Printed, at_first, few, of_simple}
use Rattle.msl_muscle_laws.proofs.PrintedLeft.{left_is}
use Rattle.msl_muscle_laws.proofs.PrintedLevels.{Ends, comma_ends, parenthesis_ends}
use Rattle.msl_muscle_laws.proofs.PrintedNames.{is_named, call_first, fun_named, fun_place}
use Rattle.msl_fun_print.proofs.Listed.{later, listed_is}
use Rattle.msl_muscle_laws.proofs.PrintedTokens.{Says, split, next, is_open}
use Rattle.msl_fun_read.proofs.Rules.{taken}
use Rattle.msl_fun_read.proofs.Turns.{reads_end}

-- ---- rows

unfoldable pub exprs : {n : _} → Row_of-Expr n → List Expr
exprs end_of-Expr = []
exprs (more_of-Expr e es) = e ∷ exprs es

unfoldable pub some_all : List Expr → List Tree
some_all [] = []
some_all (e ∷ es) = Some e ∷ some_all es

pub all_of_some : (es : List Expr) → all_of (some_all es) ≡ Some es
unfolding some_all
all_of_some [] = refl
all_of_some (e ∷ es) = ap (option_map (λ ds. e ∷ ds)) (all_of_some es)

length-some_all : (es : List Expr) → length (some_all es) ≡ length es
unfolding some_all
length-some_all [] = refl
length-some_all (e ∷ es) = ap suc (length-some_all es)

-- a call with one more argument in front
abbrev more_arguments : Expr → Expr → Expr
more_arguments e (Call' f shape args) = Call' f (tt ∷ shape) (more_of-Expr e args)
more_arguments e d = d

call_is : (f : ℕ) (shape : List (Unit {0})) (args : Row_of-Expr ((list this).count shape none_left)) → calling f (exprs args) ≡ Call' f shape args
unfolding exprs
call_is f [] end_of-Expr = refl
call_is f (tt ∷ shape) (more_of-Expr e es) = ap (more_arguments e) (call_is f shape es)

count_is : (funs : List Fun) {n : _} (es : Row_of-Expr n) → count_of funs es ≡ length (exprs es)
unfolding exprs
count_is funs end_of-Expr = refl
count_is funs (more_of-Expr e es) = let rest = count_is funs es in omega (arith, rest)

module _ (funs : List Fun) (others : List Text) (all : List Text) where
  abbrev pub AllPrinted : {n : _} → Row_of-Expr n → Type 0
  AllPrinted end_of-Expr = Unit {0}
  AllPrinted (more_of-Expr e es) = Printed funs others all e × AllPrinted es

  -- where expressions stand
  pub record GivenAll {n : _} (es : Row_of-Expr n) (scope ns ms done : List Text) : Type 0 where
    pub split : all ≡ done ++ ns
    pub names : names_after_all funs es scope ns ≡ Some ms
    pub in_scope : IsScope scope
    pub shallow : greatest_depth es ≤ MOST_DEPTH
    pub rank : rank_called_by (rank_of funs) es ≤ 7

  module _ (scope : List Text) (o : ℕ) where
    -- What is read behind an expression of a list, by the names that were bound and the trees so far. There may be so many: a comma, and one more.
    abbrev pub GoesOn : ℕ → (List Text → List Tree → State) → Type 0
    GoesOn most S =
        (done : List Text) (trees : List Tree) (ts : List Lexeme) → length trees < most → says (codes ",") (form ts) ≡ true
        → reading funs others ts (S done trees) ≡ reading funs others (drop 1 ts) (expr (context scope o) done (λ m a. S m (trees ++ a ∷ [])))

    pub record GoesMore (es : List Expr) (done : List Text) (ts us : List Lexeme) (ms : List Text) : Type 0 where
      pub after : List Text
      pub split : all ≡ after ++ ms
      pub goes : (most : ℕ) (S : List Text → List Tree → State) (trees : List Tree) → GoesOn most S → length trees + length es ≤ most
          → reading funs others ts (S done trees) ≡ reading funs others us (S after (trees ++ some_all es))

    pub record GoesAll (es : List Expr) (done : List Text) (ts us : List Lexeme) (ms : List Text) : Type 0 where
      pub after : List Text
      pub split : all ≡ after ++ ms
      pub goes : (most : ℕ) (S : List Text → List Tree → State) → GoesOn most S → length es ≤ most
          → reading funs others ts (expr (context scope o) done (λ m a. S m (a ∷ []))) ≡ reading funs others us (S after (some_all es))

    reads_more : {n : _} (es : Row_of-Expr n) → AllPrinted es → (ns ms done : List Text) (ts us : List Lexeme)
        → GivenAll es scope ns ms done → o + opened_all es < MOST_OPENED → Ends (form us) → Says (later (all_bits funs es scope ns)) ts us → GoesMore (exprs es) done ts us ms
    unfolding exprs some_all
    reads_more end_of-Expr p ns ms done ts us g lt ends said =
        let same : ns ≡ ms = let q = g.names in cc in
        record {
          after = done;
          split = g.split ∙ ap (λ (m : List Text). done ++ m) same;
          goes = λ most S trees on room i. reading funs others (said i) (S done (sym (append-nil trees) i));
        }
    reads_more (more_of-Expr e es) p ns ms done ts us g lt ends said =
        let q = parts (names_after funs e scope ns) (names_after_all funs es scope) ms g.names in
        let left : names_left e ns ≡ q.0 = left_is funs e scope ns q.0 q.1 in
        let bits : List Bit = expr_bits funs e scope ns in
        let said1 : Says (listed (bits ∷ all_bits funs es scope q.0)) (drop 1 ts) us = subst (λ m. Says (listed (bits ∷ all_bits funs es scope m)) (drop 1 ts) us) left said.1 in
        let s = split bits (later (all_bits funs es scope q.0)) (drop 1 ts) us (subst (λ bs. Says bs (drop 1 ts) us) (listed_is bits (all_bits funs es scope q.0)) said1) in
        let ge : Given funs others all e scope ns q.0 done = record { split = g.split; names = q.1; in_scope = g.in_scope; shallow = omega (arith, g.shallow); rank = omega (arith, g.rank) } in
        let re = p.0.as_expr scope ns q.0 done o (drop 1 ts) s.at ge (omega arith) (next Ends (all_bits funs es scope q.0) s.at us s.back comma_ends ends) s.front in
        let gs : GivenAll es scope q.0 ms re.done = record { split = re.split; names = q.2; in_scope = g.in_scope; shallow = omega (arith, g.shallow); rank = omega (arith, g.rank) } in
        let r = reads_more es p.1 q.0 ms re.done s.at us gs (omega arith) ends s.back in
        record {
          after = r.after;
          split = r.split;
          goes = λ most S trees on room.
              let size : length (trees ++ Some e ∷ []) ≡ length trees + 1 = length-append trees (Some e ∷ []) in
              on done trees ts (omega arith) (ap (says (codes ",")) said.0)
              ∙ (re.goes (λ m a. S m (trees ++ a ∷ []))
              ∙ (r.goes most S (trees ++ Some e ∷ []) on (omega (arith, size)) ∙ ap (λ (l : List Tree). reading funs others us (S r.after l)) (append_assoc trees (Some e ∷ []) (some_all (exprs es)))));
        }

    -- all of them, at least one
    pub reads_list : {n : _} (es : Row_of-Expr n) → AllPrinted es → (ns ms done : List Text) (ts us : List Lexeme)
        → GivenAll es scope ns ms done → o + opened_all es < MOST_OPENED → Ends (form us) → 1 ≤ length (exprs es) → Says (listed (all_bits funs es scope ns)) ts us → GoesAll (exprs es) done ts us ms
    unfolding exprs some_all
    reads_list end_of-Expr p ns ms done ts us g lt ends some said = absurd (omega arith)
    reads_list (more_of-Expr e es) p ns ms done ts us g lt ends some said =
        let q = parts (names_after funs e scope ns) (names_after_all funs es scope) ms g.names in
        let left : names_left e ns ≡ q.0 = left_is funs e scope ns q.0 q.1 in
        let bits : List Bit = expr_bits funs e scope ns in
        let said1 : Says (listed (bits ∷ all_bits funs es scope q.0)) ts us = subst (λ m. Says (listed (bits ∷ all_bits funs es scope m)) ts us) left said in
        let s = split bits (later (all_bits funs es scope q.0)) ts us (subst (λ bs. Says bs ts us) (listed_is bits (all_bits funs es scope q.0)) said1) in
        let ge : Given funs others all e scope ns q.0 done = record { split = g.split; names = q.1; in_scope = g.in_scope; shallow = omega (arith, g.shallow); rank = omega (arith, g.rank) } in
        let re = p.0.as_expr scope ns q.0 done o ts s.at ge (omega arith) (next Ends (all_bits funs es scope q.0) s.at us s.back comma_ends ends) s.front in
        let gs : GivenAll es scope q.0 ms re.done = record { split = re.split; names = q.2; in_scope = g.in_scope; shallow = omega (arith, g.shallow); rank = omega (arith, g.rank) } in
        let r = reads_more es p.1 q.0 ms re.done s.at us gs (omega arith) ends s.back in
        record { after = r.after; split = r.split; goes = λ most S on room. re.goes (λ m a. S m (a ∷ [])) ∙ r.goes most S (Some e ∷ []) on (omega arith) }

  -- ---- a call

  some_params : (k n : ℕ) → AreFuns funs → widths_of funs k ≡ Some (n, 1) → 1 ≤ n
  some_params k n rules h = of_lookup (slice_get funs k) refl
    where
      of_lookup : (o : Option Fun) → slice_get funs k ≡ o → 1 ≤ n
      of_lookup None found = absurd (omega (arith, called_within funs k n h, slice_get_outside funs k found))
      of_lookup (Some f) found = omega (arith, (called funs k n f h found).params, (rules.each k f found).some_params)

  second_is : (a b c d : ℕ) → ◌≡◌ {A = Option (ℕ × ℕ)} (Some (a, b)) (Some (c, d)) → b ≡ d
  second_is a b c d h = let pair : ◌≡◌ {A = ℕ × ℕ} (a, b) (c, d) = cc in ap (λ (w : ℕ × ℕ). w.1) pair

  one_result : (k n : ℕ) → widths_of funs k ≡ Some (n, 1) → results_of funs k ≡ 1
  one_result k n h = second_is _ _ _ _ (sym (widths_are funs k (called_within funs k n h)) ∙ h)

  call_unary : AreFuns funs → (f : ℕ) (shape : List (Unit {0})) (args : Row_of-Expr ((list this).count shape none_left)) → AllPrinted args → AsUnary funs others all (Call' f shape args)
  call_unary rules f shape args p scope ns ms done o ts us g le closed said =
      let h = held (takes (widths_of funs f) (count_of funs args)) (names_after_all funs args scope ns) ms g.names in
      let width : widths_of funs f ≡ Some (count_of funs args, 1) = takes_is (widths_of funs f) (count_of funs args) h.0 in
      let size : count_of funs args ≡ length (exprs args) = count_is funs args in
      let within : f < length funs = called_within funs f (count_of funs args) width in
      let n : Text = get_or (names_of funs) f [] in
      let is : name_in (form ts) ≡ Some n = ap name_in said.0 ∙ is_named n (fun_named funs rules f within) in
      let found = fun_place funs rules f within in
      let one : results_of funs f ≡ 1 = one_result f (count_of funs args) width in
      let pass = passed funs others ts (place ts) n refl is f found (omega (arith, g.rank)) one in
      let first_is : first_at ts ≡ first.Call = at_first funs others all ts (word n) first.Call said.0 (call_first n (fun_named funs rules f within) (form_behind ts) (is_open ts (ap (says (codes "(")) said.1.0))) in
      let callee : Callee = record { fun = fun_at funs others (word_in (form ts)); at = place ts } in
      let fun_is : callee.fun ≡ f = ap (λ l. fun_at funs others (word_in l)) said.0 ∙ ap (λ (o : Option ℕ). unwrap_or o (length funs)) found in
      let s = split (listed (all_bits funs args scope ns)) (mark (codes ")") ∷ []) (drop 1 (drop 1 ts)) us said.1.1 in
      let ga : GivenAll args scope ns ms done = record { split = g.split; names = h.1; in_scope = g.in_scope; shallow = omega (arith, g.shallow); rank = omega (arith, g.rank) } in
      let r = reads_list scope (o + 1) args p ns ms done (drop 1 (drop 1 ts)) s.at ga (omega arith) (subst Ends (sym s.back.0) parenthesis_ends) (omega (arith, some_params f (count_of funs args) rules width)) s.front in
      let trees : List Tree = some_all (exprs args) in
      let long : length trees ≡ params_at funs others callee.fun = length-some_all (exprs args) ∙ (sym size ∙ (sym (params_are funs others f (count_of funs args) width) ∙ ap (params_at funs others) (sym fun_is))) in
      let tree : call_of callee.fun (all_of trees) ≡ Some (Call' f shape args) =
      ap (λ (g : ℕ). call_of g (all_of trees)) fun_is ∙ (ap (call_of f) (all_of_some (exprs args)) ∙ (ap if_shallow (call_is f shape args) ∙ shallow_is (Call' f shape args) g.shallow)) in (
        ap begins_unary first_is,
        record {
          done = r.after;
          split = r.split;
          goes = λ k. unary_call funs others (context scope o) done k ts first_is (few funs others all o (omega arith)) pass
              ∙ (taken funs others (drop 1 ts) (drop 1 (drop 1 ts)) (codes "(") _ (ap (says (codes "(")) said.1.0, refl)
              ∙ (r.goes (length (exprs args)) (λ m l. arguments callee (context scope (o + 1)) m l k) (λ m l us lt is. one_argument_more funs others (context scope (o + 1)) m k callee l us is) (omega arith)
              ∙ (reads_end funs others callee (context scope (o + 1)) r.after trees k s.at (ap (says (codes ",")) s.back.0) (ap (says (codes ")")) s.back.0) long
              ∙ (λ i. reading funs others (s.back.1 i) (k r.after (tree i))))));
        },
      )

  pub call_printed : AreFuns funs → (f : ℕ) (shape : List (Unit {0})) (args : Row_of-Expr ((list this).count shape none_left)) → AllPrinted args → Printed funs others all (Call' f shape args)
  call_printed rules f shape args p = of_simple funs others all (Call' f shape args) refl (call_unary rules f shape args p)
