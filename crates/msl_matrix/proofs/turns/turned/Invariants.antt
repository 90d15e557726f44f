use Rattle.std.proofs.Common.{◌*◌, min}
use Rattle.msl_matrix.specs.Matrices.{AreTurned}
use Rattle.msl_matrix.proofs.turns.turned.Given as goal

abbrev pub invariant-loop-i : goal.invariant-loop-i
invariant-loop-i l = AreTurned l.height l.width l.block (min l.height (l.i * 32)) 0 0 l.out.items
