-- What a search that drops nodes has found out: the best so far, and what became of each path. And what follows.
use Rattle.std.specs.Prelude.{◌≡◌, ◌⊎◌, ⊤, ℕ, Bool, true, false, ℤ, int_lt, ◌≤ℤ◌, IsTrue, List, [], ◌∷◌, length, All, Option, Some, None, Ok}
use Rattle.msl_base.specs.Covers.{Split, Covers}
use Rattle.msl_base.specs.Streams.{Record, Outcome}
use Rattle.msl_fun.specs.declared.funs.Fun.{Fun}
use Rattle.msl_program.specs.Along.{Path}
use Rattle.msl_program.specs.Searches.{solution, inner, Node, bound, own, is_droppable_for, IsAnswer, IsNode, IsSolution}
use Rattle.msl_program.specs.declared.script.BnbSpec.{BnbSpec}

-- ---- the best so far

-- its value and its numbers
abbrev pub Best : Type 0
Best = Option (ℤ × Record)

-- the best has this value or one below
abbrev pub HasBoundFor : Best → ℤ → Type 0
HasBoundFor None v = ⊥
HasBoundFor (Some best) v = best.0 ≤ℤ v

abbrev pub if_less : Bool → ℤ → Record → ℤ × Record → Best
if_less true v y best = Some (v, y)
if_less false v y best = Some best

-- the better of the best so far and one more solution; of equals the first
abbrev pub better_by : Best → ℤ → Record → Best
better_by None v y = Some (v, y)
better_by (Some best) v y = if_less (int_lt v best.0) v y best

-- the answer where no node is left
abbrev pub outcome_of : Best → Outcome
outcome_of None = Ok []
outcome_of (Some best) = Ok (best.0 ∷ best.1)

module _ (funs : List Fun) (b : BnbSpec) (stage : ℕ) where
  -- ---- one node

  -- its bound isn't below the value of the best, and not below its parent's bound
  abbrev pub IsDropped : Best → Node → Type 0
  IsDropped None p = ⊥
  IsDropped (Some best) p = IsTrue (is_droppable_for funs b stage best.0 p (bound funs b stage p.numbers))

  -- a solution that isn't better than the best, a node with no children, or one that is dropped
  abbrev pub IsDone : Best → Path → Node → Type 0
  IsDone best q p =
      ((v : ℤ) × (own funs b stage q p ≡ Ok (solution v)) × HasBoundFor best v) ⊎ (((low : ℤ) × (own funs b stage q p ≡ Ok (inner low []))) ⊎ IsDropped best p)

  -- ---- the paths

  module _ (root : Record) where
    abbrev pub IsShut : Best → Path → Type 0
    IsShut best q = IsNode funs b stage root q (IsDone best q)

    -- a node with so many children
    abbrev pub IsSplit : Split → Type 0
    IsSplit s = IsNode funs b stage root s.path (λ p. (low : ℤ) × (xs : List Record) × (own funs b stage s.path p ≡ Ok (inner low xs)) × (length xs ≡ s.count))

    -- the best is a solution that is reached
    abbrev pub IsFound : Best → Type 0
    IsFound None = ⊤
    IsFound (Some best) = (q : Path) × IsSolution funs b stage root q best.1 best.0

    -- what was found out, where these paths were split and those were shut
    pub record HasPruned (best : Best) (splits : List Split) (shut : List (List ℕ)) : Type 0 where
      pub is_found : IsFound best
      pub are_split : All IsSplit splits
      pub are_shut : All (IsShut best) shut

    -- where nothing is left, the best so far is an answer
    abbrev pub Prunes : Best → List Split → List (List ℕ) → Type 0
    Prunes best splits shut = Covers splits shut → HasPruned best splits shut → IsAnswer funs b stage root (outcome_of best)
