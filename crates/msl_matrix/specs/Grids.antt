-- Matrices in grids of blocks: where each block lies, and which extents there are.
use Rattle.std.specs.Prelude.{◌≡◌, ◌<◌, ◌≤◌, ℕ, ◌+◌, ◌-◌, ◌*◌, ◌/◌, ◌%◌, List, length, slice_index_or}
use Rattle.msl_base.specs.Blocks.{begin}
use Rattle.msl_base.specs.declared.limits.TheConstants.{MOST_BLOCKS, MOST_NUMBERS}
use Rattle.msl_lists.specs.Whole.{Extent}
use Rattle.msl_local.specs.declared.inputs.Window.{Window}
use Rattle.msl_matrix.specs.declared.shape.Shape2.{Shape2}

-- a matrix and its grid have a row and a column, and so many numbers and blocks
pub record IsExtent (m : Extent) : Type 0 where
  pub rows : 1 ≤ m.rows
  pub cols : 1 ≤ m.cols
  pub numbers : m.rows * m.cols ≤ MOST_NUMBERS
  pub grid_rows : 1 ≤ m.grid_rows
  pub grid_cols : 1 ≤ m.grid_cols
  pub blocks : m.grid_rows * m.grid_cols ≤ MOST_BLOCKS

abbrev pub extent_of : Shape2 → Extent
extent_of shape = record { rows = shape.rows; cols = shape.cols; grid_rows = shape.grid_rows; grid_cols = shape.grid_cols }

-- the same in a grid of one block
abbrev pub in_one : Extent → Extent
in_one m = record m { grid_rows = 1; grid_cols = 1 }

-- where block row s begins, and block column t
abbrev pub top : Extent → ℕ → ℕ
top m s = begin m.rows m.grid_rows s

abbrev pub left : Extent → ℕ → ℕ
left m t = begin m.cols m.grid_cols t

-- how many rows block row s has, and columns block column t
abbrev pub height : Extent → ℕ → ℕ
height m s = top m (s + 1) - top m s

abbrev pub width : Extent → ℕ → ℕ
width m t = left m (t + 1) - left m t

-- the rows and columns of block j
pub record IsWindow (m : Extent) (j : ℕ) (window : Window) : Type 0 where
  pub above : window.above ≡ top m (j / m.grid_cols)
  pub below : window.below ≡ top m (j / m.grid_cols + 1)
  pub before : window.before ≡ left m (j % m.grid_cols)
  pub behind : window.behind ≡ left m (j % m.grid_cols + 1)

-- those of all blocks
pub record AreWindows (m : Extent) (windows : List Window) : Type 0 where
  pub many : length windows ≡ m.grid_rows * m.grid_cols
  pub each : (j : ℕ) (d : Window) → j < m.grid_rows * m.grid_cols → IsWindow m j (slice_index_or windows j d)
