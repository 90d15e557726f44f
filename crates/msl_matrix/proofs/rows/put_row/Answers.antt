use Rattle.std.proofs.Common.{◌≡◌, ◌<◌, ◌≤◌, ◌+◌, ◌-◌, ◌*◌, ℕ, arith}
use Rattle.msl_local.proofs.Blocks.{begin_next}
use Rattle.msl_matrix.specs.Grids.{extent_of, left, top, width}
use Rattle.msl_matrix.proofs.Reading.{enough, read_more, read_same, seen_within}
use Rattle.msl_matrix.proofs.rows.put_row.Goals as goal

joins : (x lo hi : ℕ) → lo ≤ hi → x + lo + (hi - lo) ≡ x + hi
joins x lo hi order = omega (arith, order)

pub put_all-requires : goal.put_all-requires
put_all-requires c =
    let m = extent_of c.args.shape in
    let t = c.loop-t.t in
    let lt : t < m.grid_cols = omega (arith, c.loop-t-test.true) in
    enough m c.args.blocks.now c.requires.blocks ((top m c.args.s + c.args.a) * m.cols + left m t) (width m t) c.row_of.result.now c.loop-t.all c.loop-t.invariant c.row_of.ensures
    (seen_within m c.args.blocks.now c.requires.blocks c.args.s t c.args.a c.requires.within lt c.requires.inside)

pub loop-t-preserved : goal.loop-t-preserved
loop-t-preserved c =
    let m = extent_of c.args.shape in
    let t = c.loop-t.t in
    let row = (top m c.args.s + c.args.a) * m.cols in
    let lt : t < m.grid_cols = omega (arith, c.loop-t-test.true) in
    read_same m c.args.blocks.now c.requires.blocks (row + left m t + width m t) (row + left m (t + 1)) c.put_all.new.all (joins row (left m t) (left m (t + 1)) (begin_next m.cols m.grid_cols t))
    (read_more m c.args.blocks.now c.requires.blocks (row + left m t) (width m t) c.row_of.result.now c.loop-t.all c.put_all.new.all c.loop-t.invariant c.row_of.ensures
    (seen_within m c.args.blocks.now c.requires.blocks c.args.s t c.args.a c.requires.within lt c.requires.inside)
    c.put_all.ensures.numbers c.put_all.ensures.room)
