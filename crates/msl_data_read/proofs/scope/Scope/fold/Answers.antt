use Rattle.msl_grammar.proofs.Exits.{is_err}
use Rattle.msl_data_read.proofs.scope.Scope.fold.Goals as goal

pub returns-in_err-op-clause-read : goal.returns-in_err-op-clause-read
returns-in_err-op-clause-read c = rw (is_err c.from_residual.result c.from_residual.ensures.1) (λ k. c.in_err-op.ensures.read _)

pub returns-in_err-line-clause-read : goal.returns-in_err-line-clause-read
returns-in_err-line-clause-read c = rw (is_err c.from_residual-in_err-line.result c.from_residual-in_err-line.ensures.1) (λ k. simp (c.in_ok-op.ensures.read) (c.in_err-line.ensures.read _))
