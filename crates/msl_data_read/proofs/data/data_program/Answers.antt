use Rattle.msl_grammar.proofs.Exits.{is_err}
use Rattle.msl_data_read.proofs.data.data_program.Goals as goal

pub returns-in_err-name-clause-read : goal.returns-in_err-name-clause-read
returns-in_err-name-clause-read c = rw (is_err c.from_residual.result c.from_residual.ensures.1) (λ k. c.in_err-name.ensures.read _)

pub returns-in_err-quoted-clause-read : goal.returns-in_err-quoted-clause-read
returns-in_err-quoted-clause-read c = rw (is_err c.from_residual-in_err-quoted.result c.from_residual-in_err-quoted.ensures.1) (λ k. simp (c.in_ok-name.ensures.read) (c.in_err-quoted.ensures.read _))

pub returns-in_err-program-clause-read : goal.returns-in_err-program-clause-read
returns-in_err-program-clause-read c = rw (is_err c.from_residual-in_err-program.result c.from_residual-in_err-program.ensures.1) (λ k. simp (c.in_ok-name.ensures.read, c.in_ok-quoted.ensures.read) (c.in_err-program.ensures.read _))

pub returns-in_err-quoted-2-clause-read : goal.returns-in_err-quoted-2-clause-read
returns-in_err-quoted-2-clause-read c = rw (is_err c.from_residual-in_err-quoted-2.result c.from_residual-in_err-quoted-2.ensures.1) (λ k. simp (c.in_ok-name.ensures.read, c.in_ok-quoted.ensures.read, c.in_ok-program.ensures.read) (c.in_err-quoted-2.ensures.read _))
