use Rattle.msl_ops.proofs.Names.{found_row, others, nothing}
use Rattle.msl_ops.proofs.laws.names_find.Goals as goal

pub returns-clause-found : goal.returns-clause-found
returns-clause-found c = found_row

pub returns-clause-none : goal.returns-clause-none
returns-clause-none c = λ kinds name. (others kinds name, nothing kinds name)
