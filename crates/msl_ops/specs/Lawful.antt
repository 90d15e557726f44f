-- The laws of an operator on whole numbers that combines lifted numbers in a domain.
use Rattle.std.specs.Prelude.{◌≡◌, ◌^◌, ◌≤◌, ℤ, List, length, fold, All, FitsSigned}
use Rattle.std.specs.Int.{w64, w128}

-- the lifted numbers combined from the first to the last, beginning with the unit
abbrev pub folded : ℤ → (ℤ → ℤ) → (ℤ → ℤ → ℤ) → List ℤ → ℤ
folded unit lift combine xs = fold (λ a x. combine a (lift x)) unit xs

pub record IsLawful (IsInDomain : ℤ → Type 0) (unit : ℤ) (lift : ℤ → ℤ) (combine : ℤ → ℤ → ℤ) : Type 0 where
  pub lifts : (x : ℤ) → FitsSigned w64 x → IsInDomain (lift x)
  pub closed : (a b : ℤ) → IsInDomain a → IsInDomain b → IsInDomain (combine a b)
  pub has_unit : IsInDomain unit
  pub left_unit : (a : ℤ) → IsInDomain a → combine unit a ≡ a
  pub right_unit : (a : ℤ) → IsInDomain a → combine a unit ≡ a
  pub associative : (a b c : ℤ) → IsInDomain a → IsInDomain b → IsInDomain c → combine (combine a b) c ≡ combine a (combine b c)
  -- no fold of at most 2 ^ 60 numbers of 64 signed bits leaves 128 signed bits
  pub fits : (xs : List ℤ) → length xs ≤ 2 ^ 60 → All (FitsSigned w64) xs → FitsSigned w128 (folded unit lift combine xs)
