-- Matrices in blocks, as contracts see them, and how they lie in their blocks.
use Rattle.std.specs.Prelude.{◌≡◌, ◌<◌, ◌≤◌, ℕ, ◌+◌, ◌-◌, ◌*◌, ◌/◌, ◌%◌, ℤ, List, [], length, map, take, slice_index_or, Result, Ok, Err}
use Rattle.std.specs.Global.{Vec}
use Rattle.msl_base.specs.Blocks.{block_of}
use Rattle.msl_base.specs.declared.fault.Fault.{Fault}
use Rattle.msl_base.specs.declared.answer.Halt.{Halt}
use Rattle.msl_base.specs.Records.{Kept}
use Rattle.msl_lists.specs.Whole.{Extent, at, cell, matrix_by}
use Rattle.msl_local.specs.Outcomes.{Stops}
use Rattle.msl_matrix.specs.Grids.{IsExtent, top, left, height, width}

-- a matrix of this extent, row by row
pub record Matrix : Type 0 where
  pub extent : Extent
  pub elements : List ℤ

abbrev pub matrix : Extent → List ℤ → Matrix
matrix m a = record { extent = m; elements = a }

-- the matrix that is wanted, of this extent, or its halt
abbrev pub ComesMatrix : Extent → Result (List ℤ) Fault → Result Matrix Halt → Type 0
ComesMatrix m want (Ok d) = (want ≡ Ok d.elements) × (d.extent ≡ m)
ComesMatrix m want (Err h) = Stops want h

-- ---- how a matrix lies in its blocks, which stand row by row of the grid, and each of which lies row by row

abbrev pub block : List (Vec ℤ) → ℕ → List ℤ
block blocks j = slice_index_or (map (λ (v : Vec ℤ). v.items) blocks) j []

-- what stands at row r and column c
unfoldable pub stands : Extent → List (Vec ℤ) → ℕ → ℕ → ℤ
stands m blocks r c =
    let s = block_of m.rows m.grid_rows r in
    let t = block_of m.cols m.grid_cols c in
    at (block blocks (s * m.grid_cols + t)) ((r - top m s) * width m t + (c - left m t))

-- the whole matrix, row by row
unfoldable pub seen : Extent → List (Vec ℤ) → List ℤ
seen m blocks = matrix_by m.rows m.cols (stands m blocks)

-- the blocks of a matrix
pub record AreBlocks (m : Extent) (blocks : List (Vec ℤ)) : Type 0 where
  pub limits : IsExtent m
  pub many : length blocks ≡ m.grid_rows * m.grid_cols
  pub sizes : (j : ℕ) → j < m.grid_rows * m.grid_cols → length (block blocks j) ≡ height m (j / m.grid_cols) * width m (j % m.grid_cols)

-- a list of these rows and columns of a matrix of so many columns, from the first up to the second
pub record IsCut (cols : ℕ) (xs : List ℤ) (above below before behind : ℕ) (ys : List ℤ) : Type 0 where
  pub long : length ys ≡ (below - above) * (behind - before)
  pub each : (a b : ℕ) → a < below - above → b < behind - before → at ys (a * (behind - before) + b) ≡ cell cols xs (above + a) (before + b)

-- a list of w columns of h rows, row by row, as columns
pub record IsTurned (h w : ℕ) (xs ys : List ℤ) : Type 0 where
  pub long : length ys ≡ w * h
  pub each : (a b : ℕ) → a < h → b < w → at ys (b * h + a) ≡ at xs (a * w + b)

-- the rows before `rows` of it, and the columns before `cols` of those before `more`
pub record AreTurned (h w : ℕ) (xs : List ℤ) (rows more cols : ℕ) (ys : List ℤ) : Type 0 where
  pub long : length ys ≡ w * h
  pub each : (a b : ℕ) → a < rows → b < w → at ys (b * h + a) ≡ at xs (a * w + b)
  pub also : (a b : ℕ) → a < more → b < cols → at ys (b * h + a) ≡ at xs (a * w + b)

-- block j of the matrix with rows and columns exchanged
abbrev pub IsTurnedBlock : Extent → List (Vec ℤ) → ℕ → List ℤ → Type 0
IsTurnedBlock m blocks j ys = let t = j / m.grid_rows in let s = j % m.grid_rows in IsTurned (height m s) (width m t) (block blocks (s * m.grid_cols + t)) ys

-- block j of a list
abbrev pub IsBlock : Extent → List ℤ → ℕ → List ℤ → Type 0
IsBlock m xs j ys = let s = j / m.grid_cols in let t = j % m.grid_cols in IsCut m.cols xs (top m s) (top m (s + 1)) (left m t) (left m (t + 1)) ys

-- the first n numbers of a matrix, and room for all others
pub record AreRead (m : Extent) (blocks : List (Vec ℤ)) (n : ℕ) (all : Kept) : Type 0 where
  pub numbers : all.numbers ≡ take n (seen m blocks)
  pub room : m.rows * m.cols ≤ all.spare + n
