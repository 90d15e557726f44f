use Rattle.msl_fabric.proofs.Exchanges.{one-answer}
use Rattle.msl_fabric.proofs.laws.one_answer.Goals as goal

pub returns : goal.returns
returns c = one-answer
