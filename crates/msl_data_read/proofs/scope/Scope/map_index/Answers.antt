use Rattle.msl_program.specs.declared.data.DataStep.TheVariants as step
use Rattle.msl_grammar.proofs.Exits.{is_err}
use Rattle.msl_data_read.proofs.scope.Scope.map_index.Goals as goal

pub returns-in_err-used-clause-read : goal.returns-in_err-used-clause-read
returns-in_err-used-clause-read c = rw (is_err c.from_residual.result c.from_residual.ensures.1) (λ k. c.in_err-used.ensures.read (λ r. k (step.MapIndex r.0 r.1.0, r.1.1)))

pub returns-clause-read : goal.returns-clause-read
returns-clause-read c = λ k. c.in_ok-used.ensures.read (λ r. k (step.MapIndex r.0 r.1.0, r.1.1))
