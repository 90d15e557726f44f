-- Blocks of a grid that move along their block rows or block columns, its lines, and round.
use Rattle.std.specs.Prelude.{◌≡◌, ◌<◌, ℕ, ◌+◌, ◌*◌, ◌/◌, ◌%◌, ℤ, pos, ◌+ℤ◌, ◌-ℤ◌, List, length, map, Result}
use Rattle.std.specs.Global.{Vec}
use Rattle.msl_base.specs.declared.fault.Fault.{Fault}
use Rattle.msl_base.specs.Streams.{Record}
use Rattle.msl_lists.specs.Whole.{Extent, Function, at, modulo, rotate_cols, rotate_rows}
use Rattle.msl_matrix.specs.Matrices.{block}
use Rattle.msl_matrix.specs.declared.rotations.Axis.{Axis}
use Rattle.msl_matrix.specs.declared.rotations.Axis.TheVariants.{Rows, Cols}

-- how many lines there are
abbrev pub lines : Axis → Extent → ℕ
lines Rows m = m.grid_rows
lines Cols m = m.grid_cols

-- the blocks of a line are of one size
abbrev pub IsEven : Axis → Extent → Type 0
IsEven Rows m = m.cols % m.grid_cols ≡ 0
IsEven Cols m = m.rows % m.grid_rows ≡ 0

-- the operation on whole matrices
abbrev pub rotate : Axis → Function → ℕ → Extent → List ℤ → Result (List ℤ) Fault
rotate Rows u stage m a = rotate_rows u stage m a
rotate Cols u stage m a = rotate_cols u stage m a

-- the block in the line of block i whose place there is `turn` of block i's and of what `by` has for the line, and round
abbrev pub turned : (ℤ → ℤ → ℤ) → Axis → Extent → List ℤ → ℕ → ℕ
turned turn Rows m by i = i / m.grid_cols * m.grid_cols + modulo (turn (pos (i % m.grid_cols)) (at by (i / m.grid_cols))) m.grid_cols
turned turn Cols m by i = modulo (turn (pos (i / m.grid_cols)) (at by (i % m.grid_cols))) m.grid_rows * m.grid_cols + i % m.grid_cols

-- to where block i goes, and from where block j comes, if the blocks of line s move `at by s` further
abbrev pub goes_to : Axis → Extent → List ℤ → ℕ → ℕ
goes_to axis m by i = turned (λ z b. z +ℤ b) axis m by i

abbrev pub comes_from : Axis → Extent → List ℤ → ℕ → ℕ
comes_from axis m by j = turned (λ z b. z -ℤ b) axis m by j

-- the blocks as records
abbrev pub as_records : List (Vec ℤ) → List Record
as_records blocks = map (λ (v : Vec ℤ). v.items) blocks

-- the blocks at other places
pub record AreMoved (m : Extent) (blocks : List (Vec ℤ)) (source : ℕ → ℕ) (moved : List (Vec ℤ)) : Type 0 where
  pub many : length moved ≡ m.grid_rows * m.grid_cols
  pub each : (j : ℕ) → j < m.grid_rows * m.grid_cols → block moved j ≡ block blocks (source j)
