use Rattle.msl_cover.proofs.Covers.{balanced}
use Rattle.msl_cover.proofs.laws.counts_are_balanced.Goals as goal

pub returns : goal.returns
returns c = balanced
