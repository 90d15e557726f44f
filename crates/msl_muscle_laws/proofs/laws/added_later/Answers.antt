use Rattle.msl_fun.proofs.Functions.{mean_added}
use Rattle.msl_muscle_laws.proofs.laws.added_later.Goals as goal

pub returns : goal.returns
returns c = λ funs f at args lt. mean_added funs f at args lt
