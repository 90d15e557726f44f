-- What a function takes, place by place.
use Rattle.std.specs.Prelude.{◌≡◌, ℕ, ◌+◌, ◌^◌, ◌≤◌, ℤ, pos, List, [], ◌∷◌, length, Option, Some, None, IfSome}
use Rattle.std.specs.Global.{Vec}
use Rattle.msl_fun.specs.declared.muscle.Use.{Use}
use Rattle.msl_fun.specs.Meaning.{params_of, results_of}
use Rattle.msl_lists.specs.Whole.{at}
use Rattle.msl_local.specs.declared.inputs.Inputs.{Inputs}
use Rattle.msl_local.specs.declared.inputs.Window.{Window}
use Rattle.msl_local.specs.declared.inputs.Inputs.TheVariants.{Map, MapIndex, Zip, ZipIndex, Place, MapCell, ZipCell}
use Rattle.msl_local.specs.Parts.{flat, lengths}
use Rattle.msl_local.specs.Windows.{AreFramed, cols, rows}

-- the parts in which the places lie, and those of the second list; where there is none, the same
abbrev pub parts_of : Inputs → List (Vec ℤ)
parts_of (Map a) = a.now
parts_of (MapIndex a) = a.now
parts_of (Zip a c) = a.now
parts_of (ZipIndex a c) = a.now
parts_of (Place a) = a.now
parts_of (MapCell a w) = a.now
parts_of (ZipCell a c w) = a.now

abbrev pub others : Inputs → List (Vec ℤ)
others (Map a) = a.now
others (MapIndex a) = a.now
others (Zip a c) = c.now
others (ZipIndex a c) = c.now
others (Place a) = a.now
others (MapCell a w) = a.now
others (ZipCell a c w) = c.now

-- how many places there are
abbrev pub places : Inputs → ℕ
places inputs = length (flat (parts_of inputs))

-- the numbers that the function takes at place i
abbrev pub taken : Inputs → ℕ → List ℤ
taken (Map a) i = at (flat a.now) i ∷ []
taken (MapIndex a) i = pos i ∷ at (flat a.now) i ∷ []
taken (Zip a c) i = at (flat a.now) i ∷ at (flat c.now) i ∷ []
taken (ZipIndex a c) i = pos i ∷ at (flat a.now) i ∷ at (flat c.now) i ∷ []
taken (Place a) i = pos i ∷ []
taken (MapCell a w) i = at (rows w.now) i ∷ at (cols w.now) i ∷ at (flat a.now) i ∷ []
taken (ZipCell a c w) i = at (rows w.now) i ∷ at (cols w.now) i ∷ at (flat a.now) i ∷ at (flat c.now) i ∷ []

-- the windows of a matrix, where each part is one
abbrev pub windows_of : Inputs → Option (List Window)
windows_of (MapCell a w) = Some w.now
windows_of (ZipCell a c w) = Some w.now
windows_of inputs = None

abbrev pub Framed : Inputs → Type 0
Framed inputs = IfSome (windows_of inputs) (λ windows. AreFramed windows (parts_of inputs))

-- a function in use takes so many numbers behind those that it is given, and gives one
pub record Takes (u : Use) (n : ℕ) : Type 0 where
  pub takes : length u.extra + n ≡ params_of u.f.funs.now u.f.at
  pub gives : results_of u.f.funs.now u.f.at ≡ 1

-- The function takes what there is at each place. Two lists lie in parts of the same lengths, and none has more than
-- 2 ^ 60 elements.
pub record Suits (u : Use) (inputs : Inputs) : Type 0 where
  pub fits : Takes u (length (taken inputs 0))
  pub alike : lengths (others inputs) ≡ lengths (parts_of inputs)
  pub framed : Framed inputs
  pub few : places inputs ≤ 2 ^ 60
