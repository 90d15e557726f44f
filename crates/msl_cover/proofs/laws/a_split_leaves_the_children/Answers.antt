use Rattle.msl_cover.proofs.Covers.{counts-split_at}
use Rattle.msl_cover.proofs.laws.a_split_leaves_the_children.Goals as goal

pub returns : goal.returns
returns c = counts-split_at
