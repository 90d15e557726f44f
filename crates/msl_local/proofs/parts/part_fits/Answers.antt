use Rattle.std.proofs.Common.{rules, get_or, pos, FitsSigned, w64}
use Rattle.std.proofs.lemmas.List.Elements.{All-more}
use Rattle.msl_local.proofs.parts.part_fits.Goals as goal

pub loop-x-preserved : goal.loop-x-preserved
loop-x-preserved c =
    let fit : FitsSigned w64 (get_or c.args.part.now c.loop-x.x-index (pos 0)) = search rules in
    All-more (FitsSigned w64) c.args.part.now c.loop-x.x-index (pos 0) c.loop-x-test.true c.loop-x.invariant fit
