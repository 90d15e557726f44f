use Rattle.std.proofs.Common.{Ok, sym, subst, ap, ◌∙◌}
use Rattle.msl_lists.specs.Whole.{Extent, function_of}
use Rattle.msl_local.specs.Outcomes.{Stops}
use Rattle.msl_matrix.specs.Matrices.{AreBlocks, Matrix, seen}
use Rattle.msl_matrix.proofs.Taken.{came, came_blocks, came_one, suits_blocks}
use Rattle.msl_matrix.proofs.elementwise.in_one_block.Goals as goal

pub new-work-requires : goal.new-work-requires
new-work-requires c = suits_blocks c.args.u.now c.args.cells c.inputs.result c.inputs.ensures c.requires.suits

pub of_blocks-all-requires : goal.of_blocks-all-requires
of_blocks-all-requires c =
    let known = rw (c.new-work.ensures.u, c.new-work.ensures.stage, c.new-work.ensures.inputs) at c.in-Ok.ensures in
    subst (λ (m : Extent). AreBlocks m c.in-Ok.blocks.items) (c.requires.one ∙ sym c.in_one.ensures)
    (came_blocks c.args.u.now c.args.cells c.inputs.result c.inputs.ensures c.requires.suits (function_of c.args.u.now) c.args.stage c.in-Ok.blocks.items known.1)

pub returns-in_ok-in_grid-in-Ok : goal.returns-in_ok-in_grid-in-Ok
returns-in_ok-in_grid-in-Ok c =
    let known = rw (c.new-work.ensures.u, c.new-work.ensures.stage, c.new-work.ensures.inputs) at c.in-Ok.ensures in
    let elements =
    ap (λ (d : Matrix). d.elements) c.in_ok-in_grid-in-Ok.ensures
    ∙ ap (λ (d : Matrix). d.elements) c.of_blocks-all.ensures
    ∙ ap (λ (m : Extent). seen m c.in-Ok.blocks.items) (c.in_one.ensures ∙ sym c.requires.one) in (
      came c.args.u.now c.args.cells c.inputs.result c.inputs.ensures c.requires.suits (function_of c.args.u.now) c.args.stage c.in-Ok.blocks.items known.0 known.1 ∙ ap (λ xs. Ok xs) (sym elements),
      ap (λ (d : Matrix). d.extent) c.in_ok-in_grid-in-Ok.ensures,
    )

pub returns-in-Err : goal.returns-in-Err
returns-in-Err c =
    let known = rw (c.new-work.ensures.u, c.new-work.ensures.stage, c.new-work.ensures.inputs) at c.in-Err.ensures in
    let is = came_one c.args.u.now c.args.cells c.inputs.result c.inputs.ensures c.requires.suits (function_of c.args.u.now) c.args.stage (ap (λ (m : Extent). m.grid_rows) c.requires.one) (ap (λ (m : Extent). m.grid_cols) c.requires.one) in
    subst (λ w. Stops w c.in-Err.h) (sym is) known
