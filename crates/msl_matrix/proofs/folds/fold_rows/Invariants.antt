use Rattle.std.proofs.Common.{◌≡◌, ◌*◌, take}
use Rattle.msl_ops.specs.Meaning.{fold_of}
use Rattle.msl_matrix.specs.Grids.{extent_of, top}
use Rattle.msl_matrix.specs.Matrices.{seen}
use Rattle.msl_matrix.proofs.folds.fold_rows.Given as goal

abbrev pub invariant-loop-s : goal.invariant-loop-s
invariant-loop-s l = l.total ≡ fold_of l.work.op.kind l.work.op.modulus (take (top (extent_of l.shape) l.s * l.shape.cols) (seen (extent_of l.shape) l.work.parts.now))
