use Rattle.msl_grammar.proofs.Exits.{is_err}
use Rattle.msl_data_read.proofs.data.line_rest.Goals as goal

pub returns-in_err-quoted-clause-read : goal.returns-in_err-quoted-clause-read
returns-in_err-quoted-clause-read c = rw (is_err c.from_residual.result c.from_residual.ensures.1) (λ k. c.in_err-quoted.ensures.read _)

pub returns-in_err-step-clause-read : goal.returns-in_err-step-clause-read
returns-in_err-step-clause-read c = rw (is_err c.from_residual-in_err-step.result c.from_residual-in_err-step.ensures.1) (λ k. simp (c.in_ok-quoted.ensures.read) (c.in_err-step.ensures.read _))

pub returns-in_err-quoted-2-clause-read : goal.returns-in_err-quoted-2-clause-read
returns-in_err-quoted-2-clause-read c = rw (is_err c.from_residual-in_err-quoted-2.result c.from_residual-in_err-quoted-2.ensures.1) (λ k. simp (c.in_ok-quoted.ensures.read, c.in_ok-step.ensures.read) (c.in_err-quoted-2.ensures.read _))
