-- Blocks that change places.
use Rattle.std.specs.Prelude.{◌≡◌, ◌<◌, ℕ, ◌+◌, ◌%◌, List, [], length, slice_index_or}
use Rattle.msl_base.specs.Streams.{Record}

abbrev pub block : List Record → ℕ → Record
block blocks j = slice_index_or blocks j []

-- each number below n is there once
pub record IsBijection (n : ℕ) (to : List ℕ) : Type 0 where
  pub long : length to ≡ n
  pub within : (i : ℕ) → i < n → slice_index_or to i 0 < n
  pub apart : (i j : ℕ) → i < n → j < n → slice_index_or to i 0 ≡ slice_index_or to j 0 → i ≡ j

-- block i stands at place to i
pub record AreMoved (to : List ℕ) (blocks moved : List Record) : Type 0 where
  pub many : length moved ≡ length blocks
  pub lands : (i : ℕ) → i < length blocks → block moved (slice_index_or to i 0) ≡ block blocks i

-- each block stands so many places further, and round
pub record AreRotated (by : ℕ) (blocks moved : List Record) : Type 0 where
  pub many : length moved ≡ length blocks
  pub lands : (i : ℕ) → i < length blocks → block moved ((i + by) % length blocks) ≡ block blocks i
