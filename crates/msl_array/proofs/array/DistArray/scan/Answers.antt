use Rattle.std.proofs.Common.{ap, sym, subst, ◌∙◌}
use Rattle.msl_local.specs.Parts.{lengths}
use Rattle.msl_array.specs.Arrays.{AreParts}
use Rattle.msl_array.proofs.Shares.{parts_like}
use Rattle.msl_array.proofs.array.DistArray.scan.Goals as goal

pub of_parts-requires : goal.of_parts-requires
of_parts-requires g c =
    subst (λ b. AreParts b c.in_ok-parts.parts.items) (sym c.blocks-blocks.ensures.blocks)
    (parts_like c.args.self.now.blocks c.parts.result.now c.in_ok-parts.parts.items c.parts.ensures.parts (c.in_ok-parts.ensures.1 ∙ ap (λ parts. lengths parts.now) c.new-work.ensures.parts))
