-- Folds from the left, from part to part.
use Rattle.std.proofs.Common.{◌≡◌, ◌<◌, ◌+◌, ℕ, ℤ, pos, List, [], ◌∷◌, ◌++◌, length, get_or, drop, Result, Ok, Err, MatchResult, sym, subst, ap, ◌∙◌}
use Rattle.std.specs.Global.{Vec}
use Rattle.std.proofs.lemmas.List.{drop_more}
use Rattle.msl_base.specs.declared.fault.Fault.{Fault}
use Rattle.msl_lists.specs.Whole.{◌>>=◌, Function, at_stage, foldl_all}
use Rattle.msl_lists.proofs.WholeFolds.{passes_parts}
use Rattle.msl_local.specs.Parts.{flat}
use Rattle.msl_array.proofs.Shares.{flat_left}

module _ (u : Function) (stage : ℕ) where
  -- ---- one more number

  module _ (s : ℤ) (xs : List ℤ) (i : ℕ) (x : ℤ) (lt : i < length xs) (is : x ≡ get_or xs i (pos 0)) where
    left : drop i xs ≡ x ∷ drop (i + 1) xs
    left = drop_more xs i (pos 0) lt ∙ ap (λ (y : ℤ). y ∷ drop (i + 1) xs) (sym is)

    pub step_ok : (g : ℤ) → at_stage stage (u (s ∷ x ∷ [])) ≡ Ok g → foldl_all u stage s (drop i xs) ≡ foldl_all u stage g (drop (i + 1) xs)
    step_ok g e = ap (foldl_all u stage s) left ∙ ap (λ r. r >>= λ y. foldl_all u stage y (drop (i + 1) xs)) e

    pub step_err : (e : Fault) → at_stage stage (u (s ∷ x ∷ [])) ≡ Err e → foldl_all u stage s (drop i xs) ≡ Err e
    step_err f e = ap (foldl_all u stage s) left ∙ ap (λ r. r >>= λ y. foldl_all u stage y (drop (i + 1) xs)) e

  -- ---- one more part

  module _ (s : ℤ) (parts : List (Vec ℤ)) (i : ℕ) (v : Vec ℤ) (lt : i < length parts) (is : v ≡ get_or parts i v) where
    goes_on : (r : Result ℤ Fault) → foldl_all u stage s v.items ≡ r
        → MatchResult r (λ g. foldl_all u stage s (flat (drop i parts)) ≡ foldl_all u stage g (flat (drop (i + 1) parts))) (λ e. foldl_all u stage s (flat (drop i parts)) ≡ Err e)
    goes_on r e =
        let rest = flat (drop (i + 1) parts) in
        let P : List ℤ → Type 0 = λ whole. MatchResult r (λ g. foldl_all u stage s whole ≡ foldl_all u stage g rest) (λ e. foldl_all u stage s whole ≡ Err e) in
        let Q : Result ℤ Fault → Type 0 = λ r. MatchResult r (λ g. foldl_all u stage s (v.items ++ rest) ≡ foldl_all u stage g rest) (λ e. foldl_all u stage s (v.items ++ rest) ≡ Err e) in
        subst P (sym (flat_left parts i v lt is)) (subst Q e (passes_parts u stage s v.items rest))

    pub part_ok : (g : ℤ) → foldl_all u stage s v.items ≡ Ok g → foldl_all u stage s (flat (drop i parts)) ≡ foldl_all u stage g (flat (drop (i + 1) parts))
    part_ok g e = goes_on (Ok g) e

    pub part_err : (e : Fault) → foldl_all u stage s v.items ≡ Err e → foldl_all u stage s (flat (drop i parts)) ≡ Err e
    part_err f e = goes_on (Err f) e
