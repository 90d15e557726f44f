use Rattle.msl_fabric.proofs.Exchanges.{back}
use Rattle.msl_fabric.proofs.laws.exchange_undoes_itself.Goals as goal

pub returns : goal.returns
returns c = back
