use Rattle.std.proofs.Common.{◌+◌, ◌*◌}
use Rattle.msl_matrix.specs.Grids.{extent_of, left, top}
use Rattle.msl_matrix.specs.Matrices.{AreRead}
use Rattle.msl_matrix.proofs.rows.put_row.Given as goal

abbrev pub invariant-loop-t : goal.invariant-loop-t
invariant-loop-t l = AreRead (extent_of l.shape) l.blocks ((top (extent_of l.shape) l.s + l.a) * l.shape.cols + left (extent_of l.shape) l.t) l.all
