use Rattle.msl_grammar.proofs.Exits.{is_err}
use Rattle.msl_data_read.proofs.step.part.Goals as goal

pub returns-in_err-at-clause-read : goal.returns-in_err-at-clause-read
returns-in_err-at-clause-read c = rw (is_err c.from_residual.result c.from_residual.ensures.1) (λ k. c.in_err-at.ensures.read _)

pub returns-in_err-quoted-clause-read : goal.returns-in_err-quoted-clause-read
returns-in_err-quoted-clause-read c = rw (is_err c.from_residual-in_err-quoted.result c.from_residual-in_err-quoted.ensures.1) (λ k. simp (c.in_ok-at.ensures.read) (c.in_err-quoted.ensures.read _))

pub returns-in_err-len-clause-read : goal.returns-in_err-len-clause-read
returns-in_err-len-clause-read c = rw (is_err c.from_residual-in_err-len.result c.from_residual-in_err-len.ensures.1) (λ k. simp (c.in_ok-at.ensures.read, c.in_ok-quoted.ensures.read) (c.in_err-len.ensures.read _))
