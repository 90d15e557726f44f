use Rattle.std.proofs.Common.{refl}
use Rattle.msl_local.specs.Folds.{scanned}
use Rattle.msl_local.specs.Parts.{flat}
use Rattle.msl_local.proofs.Together.{by_one}
use Rattle.msl_local.proofs.folding.Folding.scan_all.Goals as goal

pub returns : goal.returns
returns c = let w = c.args.self.now in by_one (scanned w.op w.stage (flat w.parts.now)) w.parts.now _ c.scan_between.result refl c.scan_between.ensures
