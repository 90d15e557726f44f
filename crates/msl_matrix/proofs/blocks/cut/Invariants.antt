use Rattle.msl_matrix.specs.Matrices.{IsCut}
use Rattle.msl_matrix.proofs.blocks.cut.Given as goal

abbrev pub invariant-loop-r : goal.invariant-loop-r
invariant-loop-r l = IsCut l.cols l.xs l.above l.r l.before l.behind l.block.items
