use Rattle.msl_group.proofs.Runs.{range-once}
use Rattle.msl_group.proofs.laws.members_are_distinct.Goals as goal

pub returns : goal.returns
returns c = λ g. range-once g.first g.count
