use Rattle.std.proofs.Common.{◌+◌, ◌*◌}
use Rattle.msl_matrix.specs.Grids.{extent_of, top}
use Rattle.msl_matrix.specs.Matrices.{AreRead}
use Rattle.msl_matrix.proofs.rows.put_block_row.Given as goal

abbrev pub invariant-loop-a : goal.invariant-loop-a
invariant-loop-a l = AreRead (extent_of l.shape) l.blocks ((top (extent_of l.shape) l.s + l.a) * l.shape.cols) l.all
