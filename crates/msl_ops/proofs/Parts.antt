-- Folds of a list in parts.
use Rattle.std.specs.Prelude.{ℕ, ◌≡◌, ◌+◌, ◌<◌, ◌≤◌, ◌^◌, ℤ, pos, List, [], ◌∷◌, ◌++◌, length, All, FitsSigned}
use Rattle.std.specs.Int.{w64, w128}
use Rattle.std.proofs.Common.{refl, sym, ap, ◌∙◌, ap₂, subst, take, get_or, length-take, of_z, to_z, arith}
use Rattle.std.proofs.lemmas.Int.{to_z-of_z}
use Rattle.std.proofs.lemmas.List.Elements.{All-head, All-tail, All-more}
use Rattle.std.proofs.lemmas.List.Sums.{fold-append, fold_more}
use Rattle.msl_ops.specs.Lawful.{IsLawful, folded}
use Rattle.msl_ops.specs.Keeping.{fold_stays_in}

pub folded_within : (D : ℤ → Type 0) (unit : ℤ) (lift : ℤ → ℤ) (combine : ℤ → ℤ → ℤ) → IsLawful D unit lift combine → (xs : List ℤ) → All (FitsSigned w64) xs → D (folded unit lift combine xs)
folded_within D unit lift combine laws xs all = fold_stays_in D lift combine laws.lifts laws.closed unit xs laws.has_unit all

-- a fold that begins with a combination
folded_from : (D : ℤ → Type 0) (unit : ℤ) (lift : ℤ → ℤ) (combine : ℤ → ℤ → ℤ) → IsLawful D unit lift combine → (a b : ℤ) (xs : List ℤ) → D a → D b → All (FitsSigned w64) xs → folded (combine a b) lift combine xs ≡ combine a (folded b lift combine xs)
folded_from D unit lift combine laws a b [] p q all = refl
folded_from D unit lift combine laws a b (x ∷ xs) p q all =
    let x_in = laws.lifts x (All-head (FitsSigned w64) x xs all) in
    ap (λ z. folded z lift combine xs) (laws.associative a b (lift x) p q x_in)
    ∙ folded_from D unit lift combine laws a (combine b (lift x)) xs p (laws.closed b (lift x) q x_in) (All-tail (FitsSigned w64) x xs all)

pub folded_parts : (D : ℤ → Type 0) (unit : ℤ) (lift : ℤ → ℤ) (combine : ℤ → ℤ → ℤ) → IsLawful D unit lift combine → (xs ys : List ℤ) → All (FitsSigned w64) xs → All (FitsSigned w64) ys → folded unit lift combine (xs ++ ys) ≡ combine (folded unit lift combine xs) (folded unit lift combine ys)
folded_parts D unit lift combine laws xs ys all_xs all_ys =
    let a = folded unit lift combine xs in
    let a_in = folded_within D unit lift combine laws xs all_xs in
    fold-append (λ z x. combine z (lift x)) unit xs ys
    ∙ ap (λ z. folded z lift combine ys) (sym (laws.right_unit a a_in))
    ∙ folded_from D unit lift combine laws a unit ys a_in laws.has_unit all_ys

-- A turn of a loop that folds xs, at its element i: the total so far and the lifted element are in the domain, what
-- they combine to fits, and it is the next total.
pub record IsTurn (D : ℤ → Type 0) (unit : ℤ) (lift : ℤ → ℤ) (combine : ℤ → ℤ → ℤ) (xs : List ℤ) (i : ℕ) (total lifted : ℤ) : Type 0 where
  pub total_in : D total
  pub lifted_in : D lifted
  pub fits : FitsSigned w128 (combine total lifted)
  pub next : combine total lifted ≡ folded unit lift combine (take (i + 1) xs)
  pub all_fit : All (FitsSigned w64) (take (i + 1) xs)

-- lifted is what the code's `lift` answers
pub fold_turn : (D : ℤ → Type 0) (unit : ℤ) (lift : ℤ → ℤ) (combine : ℤ → ℤ → ℤ) → IsLawful D unit lift combine
    → (xs : List ℤ) (i : ℕ) (total lifted : ℤ)
    → i < length xs
    → length xs ≤ 2 ^ 60
    → total ≡ folded unit lift combine (take i xs)
    → All (FitsSigned w64) (take i xs)
    → FitsSigned w64 (get_or xs i (pos 0))
    → FitsSigned w128 lifted
    → lifted ≡ lift (to_z w64 (of_z w64 (get_or xs i (pos 0))))
    → IsTurn D unit lift combine xs i total (to_z w128 (of_z w128 lifted))
fold_turn D unit lift combine laws xs i total lifted below few is_total all fit lifted_fits is_lifted =
    let x = get_or xs i (pos 0) in
    let is = to_z-of_z w128 lifted lifted_fits ∙ is_lifted ∙ ap lift (to_z-of_z w64 x fit) in
    let all_more = All-more (FitsSigned w64) xs i (pos 0) below all fit in
    let short : length (take (i + 1) xs) ≤ 2 ^ 60 = simp length-take (omega arith) in
    let next = ap₂ combine is_total is ∙ sym (fold_more (λ z y. combine z (lift y)) unit xs i (pos 0) below) in
    record {
      total_in = subst D (sym is_total) (folded_within D unit lift combine laws (take i xs) all);
      lifted_in = subst D (sym is) (laws.lifts x fit);
      fits = subst (FitsSigned w128) (sym next) (laws.fits (take (i + 1) xs) short all_more);
      next = next;
      all_fit = all_more;
    }
