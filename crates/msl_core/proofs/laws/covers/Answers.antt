use Rattle.msl_core.proofs.Covering.{balanced, covered}
use Rattle.msl_core.proofs.laws.covers.Goals as goal

pub returns-clause-balanced : goal.returns-clause-balanced
returns-clause-balanced c = balanced

pub returns-clause-covers : goal.returns-clause-covers
returns-clause-covers c = covered
