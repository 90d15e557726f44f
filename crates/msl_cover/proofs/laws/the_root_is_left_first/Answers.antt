use Rattle.msl_cover.proofs.Covers.{counts-start}
use Rattle.msl_cover.proofs.laws.the_root_is_left_first.Goals as goal

pub returns : goal.returns
returns c = counts-start
