use Rattle.msl_cover.proofs.Covers.{counts-reordered}
use Rattle.msl_cover.proofs.laws.leaves_are_counted.Goals as goal

pub returns : goal.returns
returns c = counts-reordered
