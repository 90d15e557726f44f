use Rattle.std.proofs.Common.{◌≡◌, Ok, sym, subst, ap, ◌∙◌}
use Rattle.msl_lists.specs.Whole.{Extent, function_of}
use Rattle.msl_matrix.specs.Cells.{first}
use Rattle.msl_matrix.specs.Grids.{extent_of}
use Rattle.msl_matrix.specs.Matrices.{AreBlocks, Matrix, seen}
use Rattle.msl_matrix.proofs.Taken.{came, came_blocks, suits_blocks}
use Rattle.msl_matrix.proofs.elementwise.each_cell.Goals as goal

pub by_members-requires : goal.by_members-requires
by_members-requires g c = suits_blocks c.args.u c.args.cells c.inputs.result c.inputs.ensures c.requires

pub of_blocks-requires : goal.of_blocks-requires
of_blocks-requires g c =
    let known = rw c.in-Some.is at c.in_ok-blocks.ensures.outcomes in
    let shape : (first c.args.cells).extent ≡ extent_of c.shape.result = sym (c.shape.ensures.extent ∙ ap (λ (d : Matrix). d.extent) c.first.ensures) in
    subst (λ (m : Extent). AreBlocks m c.in-Some.blocks.items) shape
    (came_blocks c.args.u c.args.cells c.inputs.result c.inputs.ensures c.requires (function_of c.args.u) c.args.at.now.stage c.in-Some.blocks.items known.1)

pub returns-in-Some-clause-matrix : goal.returns-in-Some-clause-matrix
returns-in-Some-clause-matrix g c =
    let known = rw c.in-Some.is at c.in_ok-blocks.ensures.outcomes in
    let shape : extent_of c.shape.result ≡ (first c.args.cells).extent = c.shape.ensures.extent ∙ ap (λ (d : Matrix). d.extent) c.first.ensures in
    let elements = ap (λ (d : Matrix). d.elements) c.of_blocks.ensures ∙ ap (λ (e : Extent). seen e c.in-Some.blocks.items) shape in (
      came c.args.u c.args.cells c.inputs.result c.inputs.ensures c.requires (function_of c.args.u) c.args.at.now.stage c.in-Some.blocks.items known.0 known.1 ∙ ap (λ xs. Ok xs) (sym elements),
      ap (λ (d : Matrix). d.extent) c.of_blocks.ensures ∙ shape,
    )
