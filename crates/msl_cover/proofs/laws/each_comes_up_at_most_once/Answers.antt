use Rattle.msl_cover.proofs.Covers.{comes_up_once}
use Rattle.msl_cover.proofs.laws.each_comes_up_at_most_once.Goals as goal

pub returns : goal.returns
returns c = λ splits leaves p h. comes_up_once splits leaves h p
