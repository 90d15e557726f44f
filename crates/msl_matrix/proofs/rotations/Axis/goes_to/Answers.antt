use Rattle.std.proofs.Common.{◌/◌, arith}
use Rattle.std.proofs.lemmas.Nat.{div_below, mul-add-lt}
use Rattle.msl_matrix.proofs.rotations.Axis.goes_to.Goals as goal

pub returns-in-Rows-clause-within : goal.returns-in-Rows-clause-within
returns-in-Rows-clause-within c =
    let shape = c.args.shape in
    let row = div_below c.args.i shape.grid_cols shape.grid_rows c.requires.limits.grid_cols c.requires.within in
    omega (arith, mul-add-lt (c.args.i / shape.grid_cols) shape.grid_cols c.further.result shape.grid_rows row c.further.ensures.below)
