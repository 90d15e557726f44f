use Rattle.std.proofs.Common.{◌≡◌, ◌*◌, take, ap, ◌∙◌, arith}
use Rattle.msl_ops.specs.Meaning.{fold_of}
use Rattle.msl_local.proofs.Blocks.{begin_last}
use Rattle.msl_matrix.specs.Grids.{extent_of, top}
use Rattle.msl_matrix.specs.Matrices.{seen}
use Rattle.msl_matrix.proofs.Folded.{all_rows}
use Rattle.msl_matrix.proofs.folds.fold_rows.Goals as goal

pub returns : goal.returns
returns c =
    let m = extent_of c.args.shape in
    let w = c.args.work.now in
    let all = seen m w.parts.now in
    let end : c.loop-s.s ≡ m.grid_rows = omega (arith, c.loop-s-test.false, c.loop-s.auto.s-end) in
    c.loop-s.invariant
    ∙ ap (λ s. fold_of w.op.kind w.op.modulus (take (top m s * m.cols) all)) end
    ∙ ap (λ r. fold_of w.op.kind w.op.modulus (take (r * m.cols) all)) (begin_last m.rows m.grid_rows c.requires.limits.grid_rows)
    ∙ all_rows m w.parts.now c.requires w.op w.fit
