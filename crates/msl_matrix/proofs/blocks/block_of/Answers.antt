use Rattle.std.proofs.Common.{◌<◌, ◌≤◌, ◌+◌, ◌/◌, arith}
use Rattle.std.proofs.lemmas.Nat.{mul-le, div_below}
use Rattle.msl_local.proofs.Blocks.{begin_within}
use Rattle.msl_matrix.proofs.blocks.block_of.Goals as goal

pub cut-requires-clause-within : goal.cut-requires-clause-within
cut-requires-clause-within c =
    let shape = c.args.shape in
    let s = c.args.j / shape.grid_cols in
    let lt : s < shape.grid_rows = div_below c.args.j shape.grid_cols shape.grid_rows c.requires.limits.grid_cols c.requires.within in
    let rows = begin_within shape.rows shape.grid_rows (s + 1) c.requires.limits.grid_rows (omega (arith, lt)) in
    let below : c.window.result.below ≤ shape.rows = omega (arith, c.window.ensures.below, rows) in
    omega (arith, mul-le c.window.result.below shape.cols shape.rows shape.cols below (omega arith), c.requires.long)
