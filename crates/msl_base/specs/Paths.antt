-- How a path is kept: its steps, and then zeros up to the size of the array.
use Rattle.std.specs.Prelude.{ℕ, ◌≡◌, ◌<◌, List, length, take, All}
use Rattle.std.proofs.Common.{ap, ◌∙◌}
use Rattle.msl_base.specs.Padding as padding
use Rattle.msl_base.specs.declared.limits.TheConstants.{MOST_CHILDREN, MOST_LEVELS}
use Rattle.msl_base.specs.declared.path.Path.TheInside.{Inside}

-- each step is the number of a child
abbrev pub AreSteps : List ℕ → Type 0
AreSteps steps = All (λ child. child < MOST_CHILDREN) steps

abbrev pub padded : List ℕ → List ℕ
padded steps = padding.padded MOST_LEVELS 0 steps

pub record IsKept (n : ℕ) (places : List ℕ) : Type 0 where
  pub front : padding.IsPadded MOST_LEVELS 0 n places
  pub below : AreSteps (take n places)

abbrev pub inside : List ℕ → ℕ → Inside
inside places n = record { steps = places; len = n }

-- the steps give the fields back
pub unpadded : (n : ℕ) (places : List ℕ) → IsKept n places → inside (padded (take n places)) (length (take n places)) ≡ inside places n
unpadded n places h =
    ap (λ (m : ℕ). inside (padded (take n places)) m) (padding.length-front MOST_LEVELS 0 n places h.front)
    ∙ ap (λ (t : List ℕ). inside t n) (padding.padded-front MOST_LEVELS 0 n places h.front)
