use Rattle.msl_cover.proofs.Covers.{once, never}
use Rattle.msl_cover.proofs.laws.each_comes_up_once.Goals as goal

pub returns : goal.returns
returns c = record { once = once; never = never }
