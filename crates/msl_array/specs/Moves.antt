-- Where elements and blocks go.
use Rattle.std.specs.Prelude.{◌≡◌, ◌≢◌, ◌<◌, ◌≤◌, ℕ, ◌+◌, ◌*◌, ℤ, pos, Bool, true, false, List, [], ◌∷◌, ◌++◌, length, set, slice_index_or, Result, Ok, Err}
use Rattle.std.specs.Global.{Vec}
use Rattle.msl_base.specs.declared.answer.Halt.{Halt}
use Rattle.msl_lists.specs.Whole.{Function, at, is_bijection, targets_of}
use Rattle.msl_lists.specs.WholeLaws.{IsBijection}
use Rattle.msl_local.specs.Outcomes.{Stops}
use Rattle.msl_local.specs.Parts.{start}

-- each is a place below n, and none is there twice
pub record ArePlaces (n : ℕ) (targets : List ℤ) : Type 0 where
  pub within : (i : ℕ) → i < length targets → (to : ℕ) × (to < n) × (at targets i ≡ pos to)
  pub apart : (i j : ℕ) → i < length targets → j < length targets → at targets i ≡ at targets j → i ≡ j

-- whatever else comes behind, they are no targets of a permutation of n
abbrev pub AreRefused : ℕ → List ℤ → Type 0
AreRefused n targets = (rest : List ℤ) → length (targets ++ rest) ≡ n → is_bijection n (targets ++ rest) ≡ false

-- a place is marked where it is a target, and nowhere else
pub record AreMarked (marks : List Bool) (targets : List ℤ) : Type 0 where
  pub places : ArePlaces (length marks) targets
  pub marked : (i to : ℕ) → i < length targets → at targets i ≡ pos to → slice_index_or marks to false ≡ true
  pub meant : (to : ℕ) → to < length marks → slice_index_or marks to false ≡ true → (i : ℕ) × (i < length targets) × (at targets i ≡ pos to)

-- one place more is marked, or the target is none that could be
abbrev pub Marks : List Bool → ℤ → Bool → List Bool → Type 0
Marks marks target true after = (to : ℕ) × (to < length marks) × (target ≡ pos to) × (slice_index_or marks to false ≡ false) × (after ≡ set marks to true)
Marks marks target false after = (to : ℕ) → to < length marks → target ≡ pos to → slice_index_or marks to false ≡ true

-- the first n numbers are put to the places of their targets
pub record ArePut (before targets xs : List ℤ) (n : ℕ) (after : List ℤ) : Type 0 where
  pub long : length after ≡ length before
  pub lands : (i to : ℕ) → i < n → at targets i ≡ pos to → at after to ≡ at xs i
  pub others : (to : ℕ) → ((i : ℕ) → i < n → at targets i ≢ pos to) → at after to ≡ at before to

-- the numbers, each at the place of its target
pub record IsMoved (targets xs moved : List ℤ) : Type 0 where
  pub long : length moved ≡ length xs
  pub lands : (i to : ℕ) → i < length xs → at targets i ≡ pos to → at moved to ≡ at xs i

-- each part begins where a block of this size does
abbrev pub BeginWhole : ℕ → List (Vec ℤ) → Type 0
BeginWhole size parts = (m : ℕ) → m ≤ length parts → (q : ℕ) × (start parts m ≡ q * size)

-- each is the number of a block of this size in a list of so many
abbrev pub AreBlocks : ℕ → ℕ → List ℤ → Type 0
AreBlocks size n numbers = (i : ℕ) → i < length numbers → (j : ℕ) × (j * size + size ≤ n) × (at numbers i ≡ pos j)

-- the blocks of these numbers, one after the other
pub record IsGathered (size : ℕ) (numbers a gathered : List ℤ) : Type 0 where
  pub long : length gathered ≡ length numbers * size
  pub lands : (i t j : ℕ) → i < length numbers → t < size → at numbers i ≡ pos j → at gathered (i * size + t) ≡ at a (j * size + t)

-- which of b blocks comes to each place, or why none does
abbrev pub Sources : Function → ℕ → ℕ → Result (Vec ℤ) Halt → Type 0
Sources u stage b (Ok v) = IsBijection u b × (length v.items ≡ b) × ((j to : ℕ) → j < b → u (pos j ∷ []) ≡ Ok (pos to) → at v.items to ≡ pos j)
Sources u stage b (Err h) = Stops (targets_of u stage b) h
