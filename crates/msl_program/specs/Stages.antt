-- Names for the shapes of a stage whose parts are stages, and the number of its primitive stages.
use Rattle.std.specs.Prelude.{ℕ, ◌+◌, List, [], ◌∷◌}
use mathlib.Core.Former.{none_left, this, list}
use Rattle.msl_program.specs.declared.stage.Stage.{Stage, Row_of-Stage, end_of-Stage, more_of-Stage}
use Rattle.msl_program.specs.declared.stage.Stage.TheVariants.{Atomic, Filter, Data, DivCon, Bnb, Farm', Pipe'}

pattern abbrev pub farm : ℕ → Stage → Stage
farm n s = Farm' n tt (more_of-Stage s end_of-Stage)

-- a list of stages as the parts of a pipe
abbrev pub units : List Stage → List (Unit {0})
units [] = []
units (s ∷ ss) = tt ∷ units ss

abbrev pub row : (ss : List Stage) → Row_of-Stage ((list this).count (units ss) none_left)
row [] = end_of-Stage
row (s ∷ ss) = more_of-Stage s (row ss)

abbrev pub pipe : List Stage → Stage
pipe ss = Pipe' (units ss) (row ss)

abbrev mutual
  -- all stages but farms and pipes
  pub primitives_of : Stage → ℕ
  primitives_of (farm n st) = primitives_of st
  primitives_of (Pipe' _ sts) = primitives_in sts
  primitives_of (Atomic f) = 1
  primitives_of (Filter i) = 1
  primitives_of (Data i on) = 1
  primitives_of (DivCon i on) = 1
  primitives_of (Bnb i on) = 1

  pub primitives_in : {n : _} → Row_of-Stage n → ℕ
  primitives_in end_of-Stage = 0
  primitives_in (more_of-Stage st sts) = primitives_of st + primitives_in sts
