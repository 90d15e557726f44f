use Rattle.std.proofs.Common.{List, length, sym, subst, ap, ◌∙◌}
use Rattle.std.proofs.lemmas.List.{length-map}
use Rattle.std.proofs.lemmas.Result.{IfOk-weaker}
use Rattle.msl_base.specs.Streams.{Record}
use Rattle.msl_fabric.specs.Grids.{records}
use Rattle.msl_fabric.specs.Moves as moves
use Rattle.msl_matrix.specs.Grids.{extent_of}
use Rattle.msl_matrix.specs.Rotations.{as_records}
use Rattle.msl_matrix.proofs.Lines.{blocks_moved, is_bijection}
use Rattle.msl_matrix.proofs.rotations.moved.Goals as goal

pub permute_blocks-requires : goal.permute_blocks-requires
permute_blocks-requires g c =
    let m = extent_of c.args.shape in
    let many = sym (length-map c.in_ok-copies.copies.items _) ∙ ap length c.in_ok-copies.ensures ∙ length-map c.args.blocks.now _ ∙ c.requires.blocks.many in
    is_bijection m c.requires.blocks.limits c.args.axis c.args.by.now c.as_slice.result.now (c.as_slice.ensures.value ∙ c.in_ok-to.ensures) (length c.in_ok-copies.copies.items) many

pub returns-clause-blocks : goal.returns-clause-blocks
returns-clause-blocks g c =
    let m = extent_of c.args.shape in
    let to = c.as_slice.result.now in
    let blocks = c.args.blocks.now in
    let moved = subst (λ (xs : List Record). moves.AreMoved to xs (records c.in_ok-all.all.items)) c.in_ok-copies.ensures c.in_ok-all.ensures.blocks in
    IfOk-weaker c.unpacked.result _ _
    (λ v h. blocks_moved m c.requires.blocks.limits c.args.axis c.args.by.now to (c.as_slice.ensures.value ∙ c.in_ok-to.ensures) blocks v.items c.requires.blocks.many
    (subst (λ (xs : List Record). moves.AreMoved to (as_records blocks) xs) (sym h) moved)) c.unpacked.ensures
