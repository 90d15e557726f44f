use Rattle.msl_pruning.proofs.Prunes.{prunes}
use Rattle.msl_pruning.proofs.laws.the_best_so_far_is_an_answer.Goals as goal

pub returns : goal.returns
returns c = λ funs b stage root best splits shut covers h. prunes funs b stage root splits shut covers best h
