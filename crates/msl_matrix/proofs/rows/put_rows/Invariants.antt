use Rattle.std.proofs.Common.{◌*◌}
use Rattle.msl_matrix.specs.Grids.{extent_of, top}
use Rattle.msl_matrix.specs.Matrices.{AreRead}
use Rattle.msl_matrix.proofs.rows.put_rows.Given as goal

abbrev pub invariant-loop-s : goal.invariant-loop-s
invariant-loop-s l = AreRead (extent_of l.shape) l.blocks (top (extent_of l.shape) l.s * l.shape.cols) l.all
