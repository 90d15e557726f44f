-- How a short list of numbers is kept: the numbers, and then zeros up to the size of the array.
use Rattle.std.specs.Prelude.{ℕ, ℤ, pos, ◌≡◌, List, length, take}
use Rattle.std.proofs.Common.{ap, ◌∙◌}
use Rattle.msl_base.specs.Padding as padding
use Rattle.msl_base.specs.declared.limits.TheConstants.{MOST_SMALL}
use Rattle.msl_base.specs.declared.small.Small.TheInside.{Inside}

abbrev pub padded : List ℤ → List ℤ
padded numbers = padding.padded MOST_SMALL (pos 0) numbers

abbrev pub IsKept : ℕ → List ℤ → Type 0
IsKept n places = padding.IsPadded MOST_SMALL (pos 0) n places

abbrev pub inside : List ℤ → ℕ → Inside
inside places n = record { numbers = places; len = n }

-- the numbers give the fields back
pub unpadded : (n : ℕ) (places : List ℤ) → IsKept n places → inside (padded (take n places)) (length (take n places)) ≡ inside places n
unpadded n places h =
    ap (λ (m : ℕ). inside (padded (take n places)) m) (padding.length-front MOST_SMALL (pos 0) n places h)
    ∙ ap (λ (t : List ℤ). inside t n) (padding.padded-front MOST_SMALL (pos 0) n places h)
