use Rattle.msl_fabric.proofs.Exchanges.{two}
use Rattle.msl_fabric.proofs.laws.exchanges.Goals as goal

pub returns-clause-exchange : goal.returns-clause-exchange
returns-clause-exchange c = two
