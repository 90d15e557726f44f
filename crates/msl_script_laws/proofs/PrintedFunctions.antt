-- Reading goes on through printed functions.
use Rattle.std.proofs.Common.{◌≡◌, ◌<◌, ℕ, false, List, [], ◌∷◌, ◌++◌, ◌+◌, length, map, drop, get_or, codes, refl, ap, ◌∙◌, append_assoc, arith}
use Rattle.std.proofs.Math.ListN.{get_or-append}
use Rattle.std.proofs.lemmas.List.{length-map, map-append}
use Rattle.msl_lex.specs.Lexemes.{Lexeme}
use Rattle.msl_lex.specs.Printing.{Bit}
use Rattle.msl_fun.specs.declared.expr.Expr.{Expr, Row_of-Expr, end_of-Expr, more_of-Expr}
use Rattle.msl_fun.specs.declared.expr.Expr.TheVariants.{Lit, Slot, Call'}
use Rattle.msl_fun.specs.declared.funs.Fun.{Fun}
use Rattle.msl_fun.specs.Shapes.{minus, opposite, binary, choice, binding, looping, row}
use Rattle.msl_base.specs.Names.{Text, is_among}
use Rattle.msl_fun.specs.Checks.{AreFuns, MayFollow, names_of}
use Rattle.msl_fun.specs.Evaluable.{IsEvaluable, AreArguments, AreEvaluable}
use Rattle.msl_fun_print.specs.FunText.{space, named, mark, in_parentheses, listed, as_operand, binary_bits, choice_bits, binding_bits, looping_bits, first_of, names_left, expr_bits, all_bits, body_bits, fun_bits, OpensFew}
use Rattle.msl_read.specs.Reading.{says}
use Rattle.msl_fun.proofs.Functions.{all_evaluable, called_within}
use Rattle.msl_muscle_laws.proofs.PrintedFuns.{fun_read, fun_laid}
use Rattle.msl_muscle_laws.proofs.PrintedTokens.{Says, split}
use Rattle.msl_program.specs.Known.{Known}
use Rattle.msl_program.specs.Known.{with_fun}
use Rattle.msl_grammar.specs.ScriptGrammar.{State, items, reading}
use Rattle.msl_script_print.specs.ScriptText.{line_end}
use Rattle.msl_script_read.proofs.Items.{fun_taken}
use Rattle.msl_script_laws.proofs.Printed.{Goes, nothing_left, lined, same_bits}

-- ---- functions behind those that are called

module _ (funs more : List Fun) where
  abbrev all : List Fun
  all = funs ++ more

  same_name : (f : ℕ) → f < length funs → get_or (names_of all) f [] ≡ get_or (names_of funs) f []
  same_name f within =
      ap (λ (ns : List Text). get_or ns f []) (map-append (λ f. f.name) funs more) ∙ get_or-append (names_of funs) (names_of more) [] f (omega (arith, length-map funs (λ (f : Fun). f.name)))

  mutual
    unfolding IsEvaluable

    same_bits_of : (e : Expr) (n : ℕ) (scope names : List Text) → IsEvaluable funs n e → expr_bits all e scope names ≡ expr_bits funs e scope names
    same_bits_of (Lit v) n scope names h = refl
    same_bits_of (Slot k) n scope names h = refl
    same_bits_of (minus a) n scope names h = ap (λ (b : List Bit). mark (codes "-") ∷ as_operand a b) (same_bits_of a n scope names h)
    same_bits_of (opposite a) n scope names h = ap (λ (b : List Bit). named (codes "not") ∷ space ∷ as_operand a b) (same_bits_of a n scope names h)
    same_bits_of (binary op a b) n scope names h =
        λ i. binary_bits op a b (same_bits_of a n scope names h.0 i) (same_bits_of b n scope (names_left a names) h.1 i)
    same_bits_of (choice c a b) n scope names h =
        λ i. choice_bits (same_bits_of c n scope names h.0 i) (same_bits_of a n scope (names_left c names) h.1 i) (same_bits_of b n scope (names_left a (names_left c names)) h.2 i)
    same_bits_of (binding a b) n scope names h =
        λ i. binding_bits (first_of names) (same_bits_of a n scope (drop 1 names) h.1 i) (same_bits_of b (n + 1) (scope ++ first_of names ∷ []) (names_left a (drop 1 names)) h.2 i)
    same_bits_of (looping m s e) n scope names h =
        let rest = names_left m (drop 1 names) in
        λ i. looping_bits (first_of names) (same_bits_of m n scope (drop 1 names) h.1 i) (first_of rest) (same_bits_of s n scope (drop 1 rest) h.2 i)
        (same_bits_of e (n + 2) (scope ++ first_of names ∷ first_of rest ∷ []) (names_left s (drop 1 rest)) h.3 i)
    same_bits_of (Call' f _ args) n scope names h =
        λ i. named (same_name f (called_within funs f _ h.0) i) ∷ in_parentheses (listed (same_parts args n scope names h.1 i))

    same_parts : {k : _} (es : Row_of-Expr k) (n : ℕ) (scope names : List Text) → AreArguments funs n es → all_bits all es scope names ≡ all_bits funs es scope names
    same_parts end_of-Expr n scope names h = refl
    same_parts (more_of-Expr e es) n scope names h = λ i. same_bits_of e n scope names h.0 i ∷ same_parts es n scope (names_left e names) h.1 i

  same_results : (es : List Expr) (n : ℕ) (scope names : List Text) → AreEvaluable funs n es → all_bits all (row es) scope names ≡ all_bits funs (row es) scope names
  unfolding AreEvaluable
  same_results [] n scope names h = refl
  same_results (e ∷ es) n scope names h = λ i. same_bits_of e n scope names h.0 i ∷ same_results es n scope (names_left e names) h.1 i

  pub same_fun : (f : Fun) → MayFollow funs f → fun_bits all f ≡ fun_bits funs f
  same_fun f may =
      ap
      (λ (b : List (List Bit)).
      named (codes "fun") ∷ space ∷ named f.name ∷ in_parentheses (listed (map (λ p. named p ∷ []) f.params)) ++
      space ∷ mark (codes "=") ∷ space ∷ body_bits b ++ mark (codes ";") ∷ [])
      (same_results f.results (length f.params) f.params f.names (all_evaluable funs f.results f.params f.names [] may.bodies))

-- ---- a function

module _ (m : Known) (rules : AreFuns m.funs) (f : Fun) (may : MayFollow m.funs f) (new : is_among m.others f.name ≡ false) (few : OpensFew f) where
  fun_passes : (ts us : List Lexeme) (u : Lexeme) → Says (fun_bits m.funs f) ts (u ∷ us) → reading ts (items m) ≡ reading (u ∷ us) (items (with_fun m f))
  fun_passes ts us u said = fun_taken m ts (u ∷ us) f (ap (says (codes "fun")) said.0) (fun_read m.funs m.others f ts us u rules may new few said)

  fun_goes : {t : State} {bits : List Bit} → Goes (items (with_fun m f)) bits t → Goes (items m) (fun_bits m.funs f ++ bits) t
  fun_goes {t = t} {bits = bits} h = record { laid = fun_laid m.funs f bits rules may h.laid; goes = by }
    where
      by : (ts us : List Lexeme) (u : Lexeme) → Says (fun_bits m.funs f ++ bits) ts (u ∷ us) → reading ts (items m) ≡ reading (u ∷ us) t
      by ts us u said = let s = split (fun_bits m.funs f) bits ts (u ∷ us) said in on_rest s.at s.front s.back
        where
          on_rest : (at : List Lexeme) → Says (fun_bits m.funs f) ts at → Says bits at (u ∷ us) → reading ts (items m) ≡ reading (u ∷ us) t
          on_rest [] front back = absurd (nothing_left bits us u back)
          on_rest (a ∷ rest) front back = fun_passes ts rest a front ∙ h.goes (a ∷ rest) us u back

  -- over the functions behind it too
  pub fun_item_goes : {t : State} {bits : List Bit} (more : List Fun) → Goes (items (with_fun m f)) bits t → Goes (items m) ((fun_bits (m.funs ++ more) f ++ line_end ∷ []) ++ bits) t
  fun_item_goes {bits = bits} more h =
      same_bits (ap (λ (b : List Bit). (b ++ line_end ∷ []) ++ bits) (same_fun m.funs more f may) ∙ append_assoc (fun_bits m.funs f) (line_end ∷ []) bits) (fun_goes (lined h))
