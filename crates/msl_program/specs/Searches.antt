-- The search tree of branch and bound, and what a best answer is.
use Rattle.std.specs.Prelude.{◌≡◌, ℕ, zero, suc, ◌+◌, ◌==◌, Bool, true, false, not, ◌&&◌, ◌||◌, ℤ, pos, int_lt, int_le, ◌≤ℤ◌, IsTrue, List, [], ◌∷◌, ◌++◌, length, map, take, slice_get, Option, Some, None, Result, Ok, Err}
use Rattle.msl_base.specs.Streams.{Record, Outcome}
use Rattle.msl_base.specs.declared.fault.Fault.{Fault}
use Rattle.msl_base.specs.declared.fault.Fault.TheVariants.{Shape, Count, Depth, BoundBroken, Value}
use Rattle.msl_fun.specs.declared.funs.Fun.{Fun}
use Rattle.msl_fun.specs.Meaning.{holds, same, turns_of, params_of}
use Rattle.msl_lists.specs.Whole.{◌>>=◌, each}
use Rattle.msl_program.specs.Calls.{run, number_by}
use Rattle.msl_program.specs.Along.{Path, most_levels}
use Rattle.msl_program.specs.declared.script.BnbSpec.{BnbSpec}

abbrev pub most_children : ℕ
most_children = 64

-- what a node is where it has no fault: a solution with its value, or a bound with children
pub data Kind : Type 0 where
  solution : ℤ → Kind
  inner : ℤ → List Record → Kind

-- a node: its numbers, and its parent's bound
pub record Node : Type 0 where
  pub numbers : Record
  pub above : Option ℤ

abbrev pub node : Record → Option ℤ → Node
node x up = record { numbers = x; above = up }

-- below the bound of the parent, where there is one
abbrev pub is_below : ℤ → Option ℤ → Bool
is_below z None = false
is_below z (Some up) = int_lt z up

abbrev pub refused_if : {A : Type 0} → Bool → Fault → Result A Fault → Result A Fault
refused_if true f r = Err f
refused_if false f r = r

-- ---- a tree, given by what each node is by itself

-- a node's numbers, and what it is
abbrev pub Visit : Type 0
Visit = Record × Result Kind Fault

abbrev pub children_in : Result Kind Fault → List Node
children_in (Ok (inner low xs)) = map (λ y. node y (Some low)) xs
children_in (Ok (solution v)) = []
children_in (Err f) = []

-- the visits of each of some nodes, numbered from k on
abbrev pub all_from : (ℕ → Node → List Visit) → ℕ → List Node → List Visit
all_from visit k [] = []
all_from visit k (c ∷ cs) = visit k c ++ all_from visit (k + 1) cs

-- on from a node, where there is one
abbrev pub further : Option Node → (Node → Option Node) → Option Node
further (Some n) go = go n
further None go = None

module _ (own : Path → Node → Result Kind Fault) where
  -- the node behind the rest of a path, from a node at the path q on
  abbrev pub node_behind : List ℕ → Path → Node → Option Node
  node_behind [] q p = Some p
  node_behind (k ∷ rest) q p = further (slice_get (children_in (own q p)) k) (λ n. node_behind rest (q ++ k ∷ []) n)

  abbrev pub reached_by : Record → Path → Option Node
  reached_by x q = node_behind q [] (node x None)

  -- the node and those below it, to so many levels, in preorder
  abbrev pub preorder_by : ℕ → Path → Node → List Visit
  preorder_by zero q p = []
  preorder_by (suc n) q p = (p.numbers, own q p) ∷ all_from (λ k. preorder_by n (q ++ k ∷ [])) 0 (children_in (own q p))

module _ (funs : List Fun) (b : BnbSpec) (stage : ℕ) where
  abbrev pub bound : Record → Result ℤ Fault
  bound x = number_by funs stage b.bound x

  -- ---- one node, with nothing dropped

  abbrev pub as_solution : Path → Record → ℤ → Result Kind Fault
  as_solution q x low =
      number_by funs stage b.value x >>= λ v.
      refused_if (int_lt v low) (BoundBroken stage q) (refused_if (same v (pos 9223372036854775807)) (Value stage q) (Ok (solution v)))

  abbrev pub children_of : Record → ℕ → Result (List Record) Fault
  children_of x n = each n (λ k. run funs stage b.branch (x ++ pos k ∷ []))

  abbrev pub as_inner : Path → Record → ℤ → Result Kind Fault
  as_inner q x low =
      number_by funs stage b.count x >>= λ c.
      refused_if (int_lt c (pos 0) || int_lt (pos most_children) c) (Count stage)
      (refused_if (int_lt (pos 0) c && (length q == most_levels)) (Depth stage q)
      (children_of x (turns_of c) >>= λ xs. Ok (inner low xs)))

  abbrev pub by_solved : Bool → Path → Record → ℤ → Result Kind Fault
  by_solved true q x low = as_solution q x low
  by_solved false q x low = as_inner q x low

  -- the first fault in the order of the tests, or what the node is
  abbrev pub own : Path → Node → Result Kind Fault
  own q p =
      bound p.numbers >>= λ low.
      refused_if (is_below low p.above) (BoundBroken stage q)
      (number_by funs stage b.solved p.numbers >>= λ s. by_solved (holds s) q p.numbers low)

  -- ---- the nodes that are reached from a root

  abbrev pub reached : Record → Path → Option Node
  reached x q = reached_by own x q

  abbrev pub is_droppable_for : ℤ → Node → Result ℤ Fault → Bool
  is_droppable_for v p (Ok low) = int_le v low && not (is_below low p.above)
  is_droppable_for v p (Err f) = false

  module _ (x : Record) where
    -- the path leads to a node, which is so
    abbrev pub IsNode : Path → (Node → Type 0) → Type 0
    IsNode q P = (p : Node) × (reached x q ≡ Some p) × P p

    abbrev pub IsSolution : Path → Record → ℤ → Type 0
    IsSolution q y v = IsNode q (λ p. (p.numbers ≡ y) × (own q p ≡ Ok (solution v)))

    abbrev pub IsFaulty : Path → Fault → Type 0
    IsFaulty q f = IsNode q (λ p. own q p ≡ Err f)

    abbrev pub IsDroppable : Path → ℤ → Type 0
    IsDroppable q v = IsNode q (λ p. IsTrue (is_droppable_for v p (bound p.numbers)))

    -- some node on the way to q, q itself allowed, is droppable
    abbrev pub IsCutOff : Path → ℤ → Type 0
    IsCutOff q v = (n : ℕ) × IsDroppable (take n q) v

    -- no node is refused for a bound below its parent's, or a value below its bound
    abbrev pub BoundLaw : Type 0
    BoundLaw = (q at : Path) → IsFaulty q (BoundBroken stage at) → ⊥

    pub record IsBest (v : ℤ) (y : Record) : Type 0 where
      pub found : (q : Path) × IsSolution q y v
      pub least : (q : Path) (z : Record) (w : ℤ) → IsSolution q z w → v ≤ℤ w
      pub faults : (q : Path) (f : Fault) → IsFaulty q f → IsCutOff q v

    pub record IsFruitless : Type 0 where
      pub none : (q : Path) (z : Record) (w : ℤ) → IsSolution q z w → ⊥
      pub whole : (q : Path) (f : Fault) → IsFaulty q f → ⊥

    -- the value and then the numbers of a best solution, or the empty record where there is none, or the fault of a node
    abbrev pub IsAnswer : Outcome → Type 0
    IsAnswer (Ok (v ∷ y)) = IsBest v y
    IsAnswer (Ok []) = IsFruitless
    IsAnswer (Err f) = (q : Path) × IsFaulty q f

  abbrev pub AnswerBy : Bool → Record → Outcome → Type 0
  AnswerBy true x r = IsAnswer x r
  AnswerBy false x r = r ≡ Err (Shape stage (length x) (params_of funs b.bound))

  abbrev pub BestOf : Record → Outcome → Type 0
  BestOf x r = AnswerBy (length x == params_of funs b.bound) x r

  -- ---- all nodes in preorder, and the answer of a search that drops none

  abbrev pub if_less : Bool → ℤ → Record → ℤ × Record → Option (ℤ × Record)
  if_less true v y best = Some (v, y)
  if_less false v y best = Some best

  -- the better of the best so far and one more node
  abbrev pub better : Option (ℤ × Record) → Record → Kind → Option (ℤ × Record)
  better (Some best) y (solution v) = if_less (int_lt v best.0) v y best
  better None y (solution v) = Some (v, y)
  better best y (inner low xs) = best

  abbrev pub first_best : Option (ℤ × Record) → List Visit → Outcome
  first_best None [] = Ok []
  first_best (Some best) [] = Ok (best.0 ∷ best.1)
  first_best best ((y, Err f) ∷ more) = Err f
  first_best best ((y, Ok k) ∷ more) = first_best (better best y k) more

  abbrev pub outcome_by : Bool → Record → Outcome
  outcome_by true x = first_best None (preorder_by own (suc most_levels) [] (node x None))
  outcome_by false x = Err (Shape stage (length x) (params_of funs b.bound))

  abbrev pub first_best_outcome : Record → Outcome
  first_best_outcome x = outcome_by (length x == params_of funs b.bound) x
