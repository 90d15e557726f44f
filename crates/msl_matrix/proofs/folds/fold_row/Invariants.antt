use Rattle.std.proofs.Common.{◌≡◌, ◌+◌, ◌*◌, take}
use Rattle.msl_ops.specs.Meaning.{fold_of}
use Rattle.msl_matrix.specs.Grids.{extent_of, left, top}
use Rattle.msl_matrix.specs.Matrices.{seen}
use Rattle.msl_matrix.proofs.folds.fold_row.Given as goal

abbrev pub invariant-loop-t : goal.invariant-loop-t
invariant-loop-t l = l.total ≡ fold_of l.work.op.kind l.work.op.modulus (take ((top (extent_of l.shape) l.s + l.a) * l.shape.cols + left (extent_of l.shape) l.t) (seen (extent_of l.shape) l.work.parts.now))
