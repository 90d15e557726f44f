-- Arrays in blocks, as contracts see them, and how they lie with the members of a group.
use Rattle.std.specs.Prelude.{◌≡◌, ◌≤◌, ℕ, ◌+◌, ◌-◌, ◌^◌, ℤ, List, length, map, Result, Ok, Err}
use Rattle.std.specs.Global.{Vec}
use Rattle.msl_base.specs.Blocks.{begin}
use Rattle.msl_base.specs.declared.limits.TheConstants.{MOST_BLOCKS, MOST_MEMBERS}
use Rattle.msl_base.specs.declared.fault.Fault.{Fault}
use Rattle.msl_base.specs.declared.answer.Halt.{Halt}
use Rattle.msl_lists.specs.Whole.{below}
use Rattle.msl_local.specs.Outcomes.{Stops}
use Rattle.msl_local.specs.Parts.{flat, lengths}

-- a list in so many blocks
pub record Blocked : Type 0 where
  pub blocks : ℕ
  pub elements : List ℤ

abbrev pub blocked : ℕ → List ℤ → Blocked
blocked b a = record { blocks = b; elements = a }

-- The blocks are shared out to p members as elements to blocks: where the part of member m begins.
abbrev pub share : ℕ → ℕ → ℕ → ℕ → ℕ
share n b p m = begin n b (begin b p m)

-- each member has its blocks side by side
abbrev pub IsLaid : ℕ → List (Vec ℤ) → Type 0
IsLaid b parts = let n = length (flat parts) in let p = length parts in lengths parts ≡ map (λ m. share n b p (m + 1) - share n b p m) (below p)

-- the parts in which an array of b blocks lies
pub record AreParts (b : ℕ) (parts : List (Vec ℤ)) : Type 0 where
  pub some : 1 ≤ b
  pub blocks : b ≤ MOST_BLOCKS
  pub members : 1 ≤ length parts
  pub within : length parts ≤ MOST_MEMBERS
  pub few : length (flat parts) ≤ 2 ^ 60
  pub laid : IsLaid b parts

-- the list that is wanted, in so many blocks, or its halt
abbrev pub ComesBlocked : ℕ → Result (List ℤ) Fault → Result Blocked Halt → Type 0
ComesBlocked b want (Ok d) = (want ≡ Ok d.elements) × (d.blocks ≡ b)
ComesBlocked b want (Err h) = Stops want h
