-- What becomes of one node of a search, test by test.
use Rattle.std.specs.Prelude.{◌≡◌, ℕ, ◌<◌, ◌≤◌, ◌==◌, Bool, true, false, ◌&&◌, ◌||◌, ℤ, pos, int_lt, List, length, Result, Ok, Err, ⊤}
use Rattle.msl_base.specs.Streams.{Record}
use Rattle.msl_base.specs.declared.answer.Halt.{Halt}
use Rattle.msl_base.specs.declared.answer.Halt.TheVariants as halt
use Rattle.msl_base.specs.declared.fault.Fault.{Fault}
use Rattle.msl_base.specs.declared.fault.Fault.TheVariants.{Count, Depth, BoundBroken, Value}
use Rattle.msl_fun.specs.declared.funs.Fun.{Fun}
use Rattle.msl_fun.specs.Meaning.{holds, same, turns_of}
use Rattle.msl_lists.specs.Whole.{◌>>=◌}
use Rattle.msl_program.specs.Along.{Path, most_levels}
use Rattle.msl_program.specs.Calls.{number_by}
use Rattle.msl_program.specs.Searches.{Kind, solution, inner, Node, bound, children_of, is_below, most_children, refused_if}
use Rattle.msl_program.specs.declared.script.BnbSpec.{BnbSpec}
use Rattle.msl_bounding.specs.declared.bounding.Found.{Found}
use Rattle.msl_bounding.specs.declared.bounding.Found.TheVariants.{Solution, Children}

-- exactly what is wanted, or its fault in the halt that was lent
abbrev pub Tells : {A B : Type 0} → Result A Fault → Result A B → Halt → Type 0
Tells want (Ok a) why = want ≡ Ok a
Tells want (Err b) (halt.Fault f) = want ≡ Err f
Tells want (Err b) halt.NoMemory = ⊥

-- exactly what is wanted is left, or its fault in the halt that was lent
abbrev pub Leaves : {A B C : Type 0} → Result A Fault → A → Result B C → Halt → Type 0
Leaves want left (Ok b) why = want ≡ Ok left
Leaves want left (Err c) (halt.Fault f) = want ≡ Err f
Leaves want left (Err c) halt.NoMemory = ⊥

-- at most 64 children, and none at the greatest depth
abbrev pub HasRoom : Path → Found → Type 0
HasRoom q (Solution v) = ⊤
HasRoom q (Children n) = (n ≤ most_children) × (0 < n → length q < most_levels)

module _ (funs : List Fun) (b : BnbSpec) (stage : ℕ) where
  -- the node's bound, which isn't below its parent's
  abbrev pub low_of : Path → Node → Result ℤ Fault
  low_of q p = bound funs b stage p.numbers >>= λ low. refused_if (is_below low p.above) (BoundBroken stage q) (Ok low)

  -- the value of a solution
  abbrev pub valued : Path → Record → ℤ → Result Found Fault
  valued q x low =
      number_by funs stage b.value x >>= λ v.
      refused_if (int_lt v low) (BoundBroken stage q) (refused_if (same v (pos 9223372036854775807)) (Value stage q) (Ok (Solution v)))

  -- how many children a node has
  abbrev pub counted : Path → Record → Result Found Fault
  counted q x =
      number_by funs stage b.count x >>= λ c.
      refused_if (int_lt c (pos 0) || int_lt (pos most_children) c) (Count stage)
      (refused_if (int_lt (pos 0) c && (length q == most_levels)) (Depth stage q) (Ok (Children (turns_of c))))

  abbrev pub found_by : Bool → Path → Record → ℤ → Result Found Fault
  found_by true q x low = valued q x low
  found_by false q x low = counted q x

  -- what the node is behind its bound
  abbrev pub found : Path → Record → ℤ → Result Found Fault
  found q x low = number_by funs stage b.solved x >>= λ s. found_by (holds s) q x low

  -- the same with its children
  abbrev pub kind_of : Record → ℤ → Found → Result Kind Fault
  kind_of x low (Solution v) = Ok (solution v)
  kind_of x low (Children n) = children_of funs b stage x n >>= λ xs. Ok (inner low xs)
