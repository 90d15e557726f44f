-- What a function takes at each place of matrices, and what it gives there.
use Rattle.std.specs.Prelude.{◌≡◌, ℕ, ◌/◌, ◌%◌, ℤ, pos, List, [], ◌∷◌, length, Result, ⊤}
use Rattle.std.specs.Global.{Vec}
use Rattle.msl_base.specs.declared.fault.Fault.{Fault}
use Rattle.msl_fun.specs.declared.muscle.Use.{Use}
use Rattle.msl_lists.specs.Whole.{Function, at, map_all, map_cells, zip_all, zip_cells}
use Rattle.msl_local.specs.declared.inputs.Inputs.{Inputs}
use Rattle.msl_local.specs.declared.inputs.Inputs.TheVariants as inputs
use Rattle.msl_local.specs.Places.{Takes}
use Rattle.msl_matrix.specs.declared.cells.Cells.{Cells}
use Rattle.msl_matrix.specs.declared.cells.Cells.TheVariants.{Map, MapIndex, Zip, ZipIndex}
use Rattle.msl_matrix.specs.Grids.{AreWindows}
use Rattle.msl_matrix.specs.Matrices.{AreBlocks, Matrix, seen}

-- the matrix, and the second one; where there is none, the same
abbrev pub first : Cells → Matrix
first (Map a) = a.now
first (MapIndex a w) = a.now
first (Zip a c) = a.now
first (ZipIndex a c w) = a.now

abbrev pub second : Cells → Matrix
second (Map a) = a.now
second (MapIndex a w) = a.now
second (Zip a c) = c.now
second (ZipIndex a c w) = c.now

-- the numbers that the function takes at place i, row by row
abbrev pub taken : Cells → ℕ → List ℤ
taken (Map a) i = at a.now.elements i ∷ []
taken (MapIndex a w) i = pos (i / a.now.extent.cols) ∷ pos (i % a.now.extent.cols) ∷ at a.now.elements i ∷ []
taken (Zip a c) i = at a.now.elements i ∷ at c.now.elements i ∷ []
taken (ZipIndex a c w) i = pos (i / a.now.extent.cols) ∷ pos (i % a.now.extent.cols) ∷ at a.now.elements i ∷ at c.now.elements i ∷ []

-- where there are windows, they are those of the blocks
abbrev pub Framed : Cells → Type 0
Framed (MapIndex a w) = AreWindows a.now.extent w.now
Framed (ZipIndex a c w) = AreWindows a.now.extent w.now
Framed cells = ⊤

-- the operation on whole matrices
abbrev pub whole : Function → ℕ → Cells → Result (List ℤ) Fault
whole u stage (Map a) = map_all u stage a.now.elements
whole u stage (MapIndex a w) = map_cells u stage a.now.extent.cols a.now.elements
whole u stage (Zip a c) = zip_all u stage a.now.elements c.now.elements
whole u stage (ZipIndex a c w) = zip_cells u stage a.now.extent.cols a.now.elements c.now.elements

-- the function takes what there is at each place
pub record Suits (u : Use) (cells : Cells) : Type 0 where
  pub fits : Takes u (length (taken cells 0))
  pub alike : (second cells).extent ≡ (first cells).extent
  pub framed : Framed cells

-- a matrix lies in these blocks
pub record LiesIn (all : List (Vec ℤ)) (d : Matrix) : Type 0 where
  pub blocks : AreBlocks d.extent all
  pub seen : seen d.extent all ≡ d.elements

-- the same block by block
abbrev pub AreInputs : Cells → Inputs → Type 0
AreInputs (Map a) all = (p : _) × (all ≡ inputs.Map p) × LiesIn p.now a.now
AreInputs (MapIndex a w) all = (p : _) × (all ≡ inputs.MapCell p w) × LiesIn p.now a.now
AreInputs (Zip a c) all = (p q : _) × (all ≡ inputs.Zip p q) × LiesIn p.now a.now × LiesIn q.now c.now
AreInputs (ZipIndex a c w) all = (p q : _) × (all ≡ inputs.ZipCell p q w) × LiesIn p.now a.now × LiesIn q.now c.now
