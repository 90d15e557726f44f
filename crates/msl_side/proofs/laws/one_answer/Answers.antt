use Rattle.msl_side.proofs.Leading.{one-answer}
use Rattle.msl_side.proofs.laws.one_answer.Goals as goal

pub returns : goal.returns
returns g c = one-answer
