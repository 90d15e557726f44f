use Rattle.msl_group.proofs.Runs.{merged-members}
use Rattle.msl_group.proofs.laws.split_undoes_merge.Goals as goal

pub returns-clause-all : goal.returns-clause-all
returns-clause-all c = merged-members
