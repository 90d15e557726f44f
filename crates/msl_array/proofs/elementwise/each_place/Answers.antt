use Rattle.std.proofs.Common.{ap, ◌∙◌}
use Rattle.msl_local.specs.declared.inputs.Inputs.{Inputs}
use Rattle.msl_local.specs.Parts.{lengths}
use Rattle.msl_local.specs.Places.{parts_of}
use Rattle.msl_array.proofs.Shares.{parts_like}
use Rattle.msl_array.proofs.elementwise.each_place.Goals as goal

pub of_parts-requires : goal.of_parts-requires
of_parts-requires g c =
    let same = ap (λ (inputs : Inputs). lengths (parts_of inputs)) c.new-work.ensures.inputs in
    parts_like c.args.blocks (parts_of c.args.inputs) c.in_ok-parts.parts.items c.requires.parts (c.in_ok-parts.ensures.1 ∙ same)
