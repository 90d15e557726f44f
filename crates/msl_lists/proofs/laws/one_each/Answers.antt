use Rattle.msl_lists.proofs.WholeAnswers.{each_answer, pair_answer}
use Rattle.msl_lists.proofs.WholeParts.{each_from_blocks}
use Rattle.msl_lists.proofs.WholeUnique.{one_each, one_pair}
use Rattle.msl_lists.proofs.laws.one_each.Goals as goal

pub returns : goal.returns
returns c = record { one = one_each; answer = each_answer; pair = one_pair; pair_answer = pair_answer; blocks = each_from_blocks }
