use Rattle.msl_program.specs.Searches.{first_best_outcome}
use Rattle.msl_program.proofs.BestOfLaws.{first_best_is_best}
use Rattle.msl_program.proofs.run_laws.first_best_is_best.Goals as goal

pub returns-clause-first : goal.returns-clause-first
returns-clause-first c = λ funs b stage x. first_best_is_best funs b stage x

pub returns-clause-some : goal.returns-clause-some
returns-clause-some c = λ funs b stage x. (first_best_outcome funs b stage x, first_best_is_best funs b stage x)
