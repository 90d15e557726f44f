-- What becomes of one node that is visited, and of its children.
use Rattle.std.specs.Prelude.{◌≡◌, ◌<◌, ◌≤◌, ◌⊎◌, ⊤, ℕ, ℤ, List, [], ◌∷◌, ◌++◌, length, take, slice_index_or, All, Option, Some, None, Result, Ok, Err}
use Rattle.msl_base.specs.Covers.{children}
use Rattle.msl_base.specs.Streams.{Record}
use Rattle.msl_base.specs.declared.answer.Halt.{Halt}
use Rattle.msl_base.specs.declared.answer.Halt.TheVariants as halt
use Rattle.msl_bounding.specs.declared.bounding.Bounding.{Bounding}
use Rattle.msl_fun.specs.Meaning.{params_of}
use Rattle.msl_fun.specs.declared.funs.Fun.{Fun}
use Rattle.msl_pool.specs.Working.{paths_of}
use Rattle.msl_pool.specs.declared.search.Held.{Held}
use Rattle.msl_program.specs.Along.{Path, most_levels}
use Rattle.msl_program.specs.Promises.{SearchFits}
use Rattle.msl_program.specs.Searches.{solution, inner, Node, node, own, reached, IsFaulty, most_children}
use Rattle.msl_program.specs.declared.script.BnbSpec.{BnbSpec}
use Rattle.msl_pruning.specs.Pruned.{Best, better_by, IsDropped}
use Rattle.msl_pruning.specs.declared.pruning.Branching.{Branching}
use Rattle.msl_pruning.specs.declared.pruning.LiveNode.{LiveNode}

-- ---- one node

module _ (funs : List Fun) (b : BnbSpec) (stage : ℕ) (q : Path) (p : Node) (old new : Best) where
  -- the node is a solution, which may be the best now
  pub record IsTaken : Type 0 where
    pub value : ℤ
    pub is_solution : own funs b stage q p ≡ Ok (solution value)
    pub best : new ≡ better_by old value p.numbers

  -- the node is dropped or has no children
  pub record IsLeft : Type 0 where
    pub why : IsDropped funs b stage old p ⊎ ((low : ℤ) × (own funs b stage q p ≡ Ok (inner low [])))
    pub best : new ≡ old

  -- the node has these children
  pub record IsBranched (low : ℤ) (xs : List Record) : Type 0 where
    pub is_inner : own funs b stage q p ≡ Ok (inner low xs)
    pub long : All (λ x. length x ≡ length p.numbers) xs
    pub some : 0 < length xs
    pub few : length xs ≤ most_children
    pub deep : length q < most_levels
    pub best : new ≡ old

  -- what becomes of the node, whose children are the first ones in their room, or its fault
  abbrev pub IsVisited : List Record → Result (Option Branching) Halt → Type 0
  IsVisited room (Ok None) = IsTaken ⊎ IsLeft
  IsVisited room (Ok (Some n)) = IsBranched n.low (take n.count room) × (length (take n.count room) ≡ n.count)
  IsVisited room (Err (halt.Fault f)) = own funs b stage q p ≡ Err f
  IsVisited room (Err halt.NoMemory) = ⊥

-- ---- its children

abbrev pub live : Record → ℤ → LiveNode
live x low = record { numbers = x; above = Some low }

-- one of these children of the node at a path is held
abbrev pub IsHeldOf : List ℕ → ℤ → List Record → Held LiveNode → Type 0
IsHeldOf path low xs h = (j : ℕ) × (j < length xs) × (h.path ≡ path ++ j ∷ []) × (h.node ≡ live (slice_index_or xs j []) low)

-- of these children of the node at a path all are held with their paths, but for the first ones
pub record HoldsChildren (path : List ℕ) (low : ℤ) (xs : List Record) (left : ℕ) (before after : List (Held LiveNode)) : Type 0 where
  pub more : List (Held LiveNode)
  pub held : after ≡ before ++ more
  pub paths : paths_of more ++ children path left ≡ children path (length xs)
  pub nodes : All (IsHeldOf path low xs) more

-- where a node has children, its path has a step left, and they stand in front of these
abbrev pub CanHold : List ℕ → Option Branching → List Record → Type 0
CanHold path None room = ⊤
CanHold path (Some n) room = (length path < most_levels) × (n.count ≤ length room)

-- and all of them are held
abbrev pub HoldsAll : List ℕ → Option Branching → List Record → List (Held LiveNode) → List (Held LiveNode) → Type 0
HoldsAll path None room before after = after ≡ before
HoldsAll path (Some n) room before after = HoldsChildren path n.low (take n.count room) 0 before after

-- ---- the whole tree

module _ (funs : List Fun) (b : BnbSpec) (stage : ℕ) (root : Record) where
  -- the node behind a path, in the search of this root
  pub record IsLive (nodes : Bounding) (all : List Fun) (first : Record) (q : Path) (n : LiveNode) : Type 0 where
    pub calls_are : nodes.calls ≡ funs
    pub spec_is : nodes.spec.now ≡ b
    pub stage_is : nodes.stage ≡ stage
    pub all_are : all ≡ funs
    pub first_is : first ≡ root
    pub fits : SearchFits funs b
    pub root_long : length root ≡ params_of funs b.bound
    pub is_reached : reached funs b stage root q ≡ Some (node n.numbers n.above)
    pub long : length n.numbers ≡ params_of funs b.bound

  -- the fault of a node
  abbrev pub StopsWith : Halt → Type 0
  StopsWith (halt.Fault f) = (q : Path) × IsFaulty funs b stage root q f
  StopsWith halt.NoMemory = ⊥

  abbrev pub ComesTo : {E : Type 0} → Node → Result LiveNode E → Type 0
  ComesTo p (Ok n) = node n.numbers n.above ≡ p
  ComesTo p (Err e) = ⊥

  -- the node behind a path, where there is one
  abbrev pub IsReplayed : {E : Type 0} → Path → Result LiveNode E → Type 0
  IsReplayed q r = (p : Node) → reached funs b stage root q ≡ Some p → ComesTo p r
