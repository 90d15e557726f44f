-- Reading goes on through what a printed step names: lines, arguments and functions.
use Rattle.std.proofs.Common.{◌≡◌, ◌<◌, ℕ, suc, true, pos, negsuc, neg_ℤ, List, [], ◌∷◌, ◌++◌, length, map, codes, refl, ap, sym, subst, append_assoc, lt-ltb}
use Rattle.std.specs.Prelude.{slice_index_or}
use Rattle.msl_lex.specs.Lexemes.{word, number, sign, lexeme}
use Rattle.msl_lex.specs.Printing.{Bit}
use Rattle.msl_base.specs.Names.{Text}
use Rattle.msl_fun.specs.Checks.{names_of}
use Rattle.msl_fun_print.specs.FunText.{space, named, mark, listed}
use Rattle.msl_muscle_laws.proofs.PrintedNames.{no_sign, is_named}
use Rattle.msl_program.specs.declared.data.Arg.{Arg}
use Rattle.msl_program.specs.declared.data.Arg.TheVariants as arg
use Rattle.msl_program.specs.declared.data.UseSpec.{UseSpec}
use Rattle.msl_program.specs.Known.{Known}
use Rattle.msl_grammar.specs.declared.used.Used.{Used}
use Rattle.msl_grammar.specs.Uses.{with_arg}
use Rattle.msl_program.specs.declared.shape.Need.{Need}
use Rattle.msl_program.specs.declared.shape.Need.TheVariants as need
use Rattle.msl_program.specs.declared.shape.Shape.{Shape}
use Rattle.msl_grammar.specs.Known.{place}
use Rattle.msl_program.specs.ProgramPromise.{shape_at, IsLine, IsArgument, AreArguments, IsUse}
use Rattle.msl_program.specs.Programs.{Program, line_names, blocks_of, given}
use Rattle.msl_grammar.specs.ScriptGrammar.{State, a_line, a_container, a_block_of, an_arg, one_arg, maybe_args, a_use, a_natural}
use Rattle.msl_script_print.specs.ScriptText.{arg_bits, args_bits, use_bits}
use Rattle.msl_grammar.proofs.Leaves.{there, placed, kind_found}
use Rattle.msl_data_read.proofs.ProgramLeaves.{fun_declared, line_there, arg_named}
use Rattle.msl_script_laws.proofs.Printed.{meets, Goes, spaced, at_token, one_token, same_token, grouped, same_bits, name_goes, name_spelt, number_spelt, natural_goes}
use Rattle.msl_script_laws.proofs.PrintedParts.{Stands}

-- a name, a number or the end of a list may stand before these
pub record Closes (bits : List Bit) : Type 0 where
  pub words : (w : Text) → meets (word w) bits ≡ true
  pub numbers : (v : ℕ) → meets (number v) bits ≡ true

-- over the names of all functions and of all lines
module _ (m : Known) (p : Program) (funs names : List Text)
    (fun_stands : (f : ℕ) → f < length m.funs → Stands (names_of m.funs) f (slice_index_or funs f []))
    (line_stands : (l : ℕ) → l < length p.lines → Stands (line_names p) l (slice_index_or names l [])) where
  -- ---- lines

  pub line_goes : {needed : Need} {k : ℕ × Shape → State} {t : State} {l : ℕ} {bits : List Bit} → IsLine p needed l → meets (word (slice_index_or names l [])) bits ≡ true → Goes (k (l, shape_at p l)) bits t
      → Goes (a_line p needed k) (named (slice_index_or names l []) ∷ bits) t
  line_goes {needed = needed} {k = k} {t = t} {l = l} {bits = bits} is meet h =
      let n = slice_index_or names l [] in
      let s = line_stands l is.within in
      name_goes (a_line p needed k) _ _ (λ b behind. refl) s.name meet (λ at. line_there p needed at n l true s.place is.suits)
      (λ at. subst (λ (d : ℕ). Goes (k (d, shape_at p d)) bits t) (sym (placed (line_names p) n l s.place)) h)

  pub container_goes : {needed : Need} {for_array for_matrix : ℕ} {k : ℕ × Shape → State} {t : State} {l : ℕ} {bits : List Bit} (u : Used)
      → IsUse m.funs p (given for_array for_matrix (shape_at p l)) (record { fun = u.fun; args = u.args }) → IsLine p needed l → meets (word (slice_index_or names l [])) bits ≡ true → Goes (k (l, shape_at p l)) bits t
      → Goes (a_container m p u needed for_array for_matrix k) (named (slice_index_or names l []) ∷ bits) t
  container_goes {needed = needed} {for_array = for_array} {for_matrix = for_matrix} {k = k} {t = t} {l = l} {bits = bits} u uses is meet h =
      let n = slice_index_or names l [] in
      let s = line_stands l is.within in
      let at_place = placed (line_names p) n l s.place in
      let suits = ap (λ (d : ℕ). shape_at p d) at_place in
      name_goes (a_container m p u needed for_array for_matrix k) _ _ (λ b behind. refl) s.name meet
      (λ at. rw (there (line_names p) n l s.place, suits, is.suits, uses.function.params, uses.function.results) refl)
      (λ at. subst (λ (d : ℕ). Goes (k (d, shape_at p d)) bits t) (sym at_place) h)

  pub block_goes : {j at : ℕ} {k : ℕ × Shape → State} {t : State} {l : ℕ} {bits : List Bit} → IsLine p need.Array l → j < blocks_of (shape_at p l) → meets (word (slice_index_or names l [])) bits ≡ true → Goes (k (l, shape_at p l)) bits t
      → Goes (a_block_of p (j, at) k) (named (slice_index_or names l []) ∷ bits) t
  block_goes {j = j} {at = place} {k = k} {t = t} {l = l} {bits = bits} is few meet h =
      let n = slice_index_or names l [] in
      let s = line_stands l is.within in
      let at_place = placed (line_names p) n l s.place in
      let suits = ap (λ (d : ℕ). shape_at p d) at_place in
      name_goes (a_block_of p (j, place) k) _ _ (λ b behind. refl) s.name meet
      (λ at. rw (there (line_names p) n l s.place, suits, is.suits, lt-ltb j (blocks_of (shape_at p l)) few) refl)
      (λ at. subst (λ (d : ℕ). Goes (k (d, shape_at p d)) bits t) (sym at_place) h)

  -- ---- arguments

  pub arg_goes : {k : Arg → State} {t : State} {bits : List Bit} (a : Arg) → IsArgument p a → Closes bits → Goes (k a) bits t → Goes (an_arg p k) (arg_bits funs names a ++ bits) t
  arg_goes {k = k} {t = t} {bits = bits} (arg.Number l) is closes h =
      let n = slice_index_or names l [] in
      let s = line_stands l is.within in
      at_token (λ at. k (arg.Number (place (line_names p) n))) (name_spelt n s.name) (closes.words n)
      (λ at end ts. arg_named p k (lexeme (word n) at end ∷ ts) n (is_named n s.name) (line_there p need.Number at n l true s.place is.suits))
      (λ at. subst (λ (d : ℕ). Goes (k (arg.Number d)) bits t) (sym (placed (line_names p) n l s.place)) h)
  arg_goes {k = k} (arg.Lit (pos v)) is closes h = one_token (k (arg.Lit (pos v))) (number_spelt v is) (closes.numbers v) (λ at end ts. refl) h
  arg_goes {k = k} (arg.Lit (negsuc v)) is closes h = one_token (a_natural (λ v. k (arg.Lit (neg_ℤ (pos v))))) refl refl (λ at end ts. refl) (natural_goes is (closes.numbers (suc v)) h)

  -- arguments behind others, up to the end of their list
  pub args_go : {k : Used → State} {t : State} {bits : List Bit} (args : List Arg) (a : Arg) (u : Used) → AreArguments p (a ∷ args) → meets (sign (codes ")")) bits ≡ true
      → Goes (k (record u { args = u.args ++ a ∷ args })) bits t → Goes (one_arg p u k) (listed (map (arg_bits funs names) (a ∷ args)) ++ mark (codes ")") ∷ bits) t
  args_go {k = k} [] a u are meet h = arg_goes a are.0 (record { words = λ w. refl; numbers = λ v. refl }) (one_token (k (with_arg u a)) refl meet (λ at end ts. refl) h)
  args_go {k = k} {t = t} {bits = bits} (b ∷ args) a u are meet h =
      let w = with_arg u a in
      let last = subst (λ (all : List Arg). Goes (k (record u { args = all })) bits t) (sym (append_assoc u.args (a ∷ []) (b ∷ args))) h in
      grouped (arg_bits funs names a) _ _ (arg_goes a are.0 (record { words = λ w. refl; numbers = λ v. refl }) (one_token (one_arg p w k) refl refl (λ at end ts. refl) (spaced (args_go args b w are.1 meet last))))

  -- a list of arguments may be opened
  opens : (args : List Arg) (a : Arg) (bits : List Bit) → meets (sign (codes "(")) (listed (map (arg_bits funs names) (a ∷ args)) ++ bits) ≡ true
  opens [] (arg.Number l) bits = refl
  opens [] (arg.Lit (pos v)) bits = refl
  opens [] (arg.Lit (negsuc v)) bits = refl
  opens (b ∷ args) (arg.Number l) bits = refl
  opens (b ∷ args) (arg.Lit (pos v)) bits = refl
  opens (b ∷ args) (arg.Lit (negsuc v)) bits = refl

  maybe_args_go : {k : Used → State} {t : State} {bits : List Bit} (args : List Arg) (f at : ℕ) → AreArguments p args → ((u : Used) → Goes (k u) bits t → Goes (maybe_args p u k) bits t)
      → Goes (k (record { fun = f; at = at; args = args })) bits t → Goes (maybe_args p (record { fun = f; at = at; args = [] }) k) (args_bits funs names args ++ space ∷ bits) t
  maybe_args_go [] f at are none h = spaced (none _ h)
  maybe_args_go {k = k} {bits = bits} (a ∷ args) f at are none h =
      let u : Used = record { fun = f; at = at; args = [] } in
      let list = listed (map (arg_bits funs names) (a ∷ args)) in
      same_bits (ap (λ (b : List Bit). mark (codes "(") ∷ b) (append_assoc list (mark (codes ")") ∷ []) (space ∷ bits))) (one_token (one_arg p u k) refl (opens args a (mark (codes ")") ∷ space ∷ bits)) (λ at end ts. refl) (args_go args a u are refl (spaced h)))

  -- ---- functions

  before_args : (n : Text) (args : List Arg) (bits : List Bit) → meets (word n) (args_bits funs names args ++ space ∷ bits) ≡ true
  before_args n [] bits = refl
  before_args n (a ∷ args) bits = refl

  -- a function with its arguments, and a space
  pub use_goes : {k : Used → State} {t : State} {bits : List Bit} (u : UseSpec) → u.fun < length m.funs → AreArguments p u.args → ((w : Used) → Goes (k w) bits t → Goes (maybe_args p w k) bits t)
      → ((at : ℕ) → Goes (k (record { fun = u.fun; at = at; args = u.args })) bits t) → Goes (a_use m p k) (use_bits funs names u ++ space ∷ bits) t
  use_goes {k = k} {t = t} {bits = bits} u within are none h =
      let n = slice_index_or funs u.fun [] in
      let s = fun_stands u.fun within in
      name_goes (a_use m p k) _ _ (λ b behind. refl) s.name (before_args n u.args bits) (λ at. kind_found m (names_of m.funs) at n u.fun s.place (fun_declared m n u.fun s.place))
      (λ at. subst (λ (f : ℕ). Goes (maybe_args p (record { fun = f; at = at; args = [] }) k) (args_bits funs names u.args ++ space ∷ bits) t) (sym (placed (names_of m.funs) n u.fun s.place))
      (maybe_args_go u.args u.fun at are none (h at)))

  -- no arguments stand before the name of a line
  pub none_before_line : {k : Used → State} {t : State} {bits : List Bit} (l : ℕ) → l < length p.lines → (w : Used) → Goes (k w) (named (slice_index_or names l []) ∷ bits) t → Goes (maybe_args p w k) (named (slice_index_or names l []) ∷ bits) t
  none_before_line {k = k} l within w h =
      same_token (k w) (λ at end ts. rw (no_sign (slice_index_or names l []) (line_stands l within).name (codes "(") refl) refl) h

  -- nor before an argument
  pub none_before_arg : {k : Used → State} {t : State} (bits : List Bit) (a : Arg) → IsArgument p a → (w : Used) → Goes (k w) (arg_bits funs names a ++ bits) t → Goes (maybe_args p w k) (arg_bits funs names a ++ bits) t
  none_before_arg bits (arg.Number l) is w h = none_before_line l is.within w h
  none_before_arg {k = k} bits (arg.Lit (pos v)) is w h = same_token (k w) (λ at end ts. refl) h
  none_before_arg {k = k} bits (arg.Lit (negsuc v)) is w h = same_token (k w) (λ at end ts. refl) h
