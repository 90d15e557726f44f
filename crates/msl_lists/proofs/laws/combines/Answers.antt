use Rattle.msl_lists.proofs.WholeAnswers.{fold_answer, scan_each, scan_answer}
use Rattle.msl_lists.proofs.WholeUnique.{one_combined}
use Rattle.msl_lists.proofs.laws.combines.Goals as goal

pub returns : goal.returns
returns c = record { fold = fold_answer; scan = scan_each; one = one_combined; answer = scan_answer }
