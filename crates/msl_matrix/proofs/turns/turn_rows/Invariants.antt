use Rattle.msl_matrix.specs.Matrices.{AreTurned}
use Rattle.msl_matrix.proofs.Turned.{Column}
use Rattle.msl_matrix.proofs.turns.turn_rows.Given as goal

abbrev pub invariant-loop-b : goal.invariant-loop-b
invariant-loop-b l = AreTurned l.height l.width l.block l.from l.to l.b l.out

abbrev pub invariant-loop-a : goal.invariant-loop-a
invariant-loop-a l = Column l.height l.width l.block l.from l.to l.b l.a l.out
