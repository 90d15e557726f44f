use Rattle.std.proofs.Common.{rules, ◌≡◌, ◌≤◌, ◌+◌, ◌-◌, ◌*◌, ℕ, take, drop, ap, ◌∙◌, arith, FitsSigned, to_z, of_z}
use Rattle.std.specs.Int.{w128}
use Rattle.std.proofs.lemmas.Int.{to_z-of_z}
use Rattle.msl_ops.specs.Meaning.{fold_of}
use Rattle.msl_local.proofs.Blocks.{begin_next}
use Rattle.msl_local.proofs.FoldParts.{IsStep}
use Rattle.msl_matrix.specs.Grids.{extent_of, left, top, width}
use Rattle.msl_matrix.specs.Matrices.{seen}
use Rattle.msl_matrix.proofs.Folded.{row_step, row_next}
use Rattle.msl_matrix.proofs.folds.fold_row.Goals as goal

joins : (x lo hi : ℕ) → lo ≤ hi → x + lo + (hi - lo) ≡ x + hi
joins x lo hi order = omega (arith, order)

step : (c : goal.After-fold) → IsStep c.args.work.now.op
    (take ((top (extent_of c.args.shape) c.args.s + c.args.a) * c.args.shape.cols + left (extent_of c.args.shape) c.loop-t.t) (seen (extent_of c.args.shape) c.args.work.now.parts.now))
    (take (width (extent_of c.args.shape) c.loop-t.t) (drop ((top (extent_of c.args.shape) c.args.s + c.args.a) * c.args.shape.cols + left (extent_of c.args.shape) c.loop-t.t) (seen (extent_of c.args.shape) c.args.work.now.parts.now)))
    (to_z w128 c.loop-t.total-bits) (to_z w128 (of_z w128 c.fold.result))
step c =
    let m = extent_of c.args.shape in
    let w = c.args.work.now in
    let n = (top m c.args.s + c.args.a) * m.cols + left m c.loop-t.t in
    let fit : FitsSigned w128 c.fold.result = search rules in
    row_step m w.parts.now c.requires.blocks w.op w.fit n (width m c.loop-t.t) c.row_of-row.result.now (to_z w128 c.loop-t.total-bits) (to_z w128 (of_z w128 c.fold.result))
    c.row_of-row.ensures c.loop-t.invariant (to_z-of_z w128 c.fold.result fit ∙ c.fold.ensures)

pub combine-total-requires-clause-a : goal.combine-total-requires-clause-a
combine-total-requires-clause-a c = (step c).total_in

pub combine-total-requires-clause-b : goal.combine-total-requires-clause-b
combine-total-requires-clause-b c = (step c).mine_in

pub combine-total-requires-clause-fits : goal.combine-total-requires-clause-fits
combine-total-requires-clause-fits c = (step c).fits

pub loop-t-preserved : goal.loop-t-preserved
loop-t-preserved c =
    let m = extent_of c.args.shape in
    let w = c.args.work.now in
    let t = c.loop-t.t in
    let row = (top m c.args.s + c.args.a) * m.cols in
    let fit : FitsSigned w128 c.fold.result = search rules in
    let next = row_step m w.parts.now c.requires.blocks w.op w.fit (row + left m t) (width m t) c.row_of-row.result.now (to_z w128 c.loop-t.total-bits) (to_z w128 (of_z w128 c.fold.result))
    c.row_of-row.ensures c.loop-t.invariant (to_z-of_z w128 c.fold.result fit ∙ c.fold.ensures) in
    let result : FitsSigned w128 c.combine-total.result = search rules in
    to_z-of_z w128 c.combine-total.result result
    ∙ c.combine-total.ensures
    ∙ next.next
    ∙ row_next m w.parts.now c.requires.blocks w.op w.fit (row + left m t) (width m t)
    ∙ ap (λ k. fold_of w.op.kind w.op.modulus (take k (seen m w.parts.now))) (joins row (left m t) (left m (t + 1)) (begin_next m.cols m.grid_cols t))
