use Rattle.std.proofs.Common.{ℤ, List, ◌++◌, take}
use Rattle.msl_array.specs.Moves.{AreMarked}
use Rattle.msl_array.proofs.targets.mark_all.Given as goal

abbrev pub invariant-loop-target : goal.invariant-loop-target
invariant-loop-target l = (seen : List ℤ) → AreMarked l.fn.marks seen → AreMarked l.marks (seen ++ take l.target-index l.targets)
