use Rattle.msl_grammar.proofs.Exits.{is_err}
use Rattle.msl_grammar.proofs.token.numbered.Goals as goal

pub returns-in_err-quoted-clause-read : goal.returns-in_err-quoted-clause-read
returns-in_err-quoted-clause-read c = rw (is_err c.from_residual.result c.from_residual.ensures.1) (λ k. c.in_err-quoted.ensures.read _)

pub returns-in_err-v-clause-read : goal.returns-in_err-v-clause-read
returns-in_err-v-clause-read c = rw (is_err c.from_residual-in_err-v.result c.from_residual-in_err-v.ensures.1) (λ k. simp (c.in_ok-quoted.ensures.read) (c.in_err-v.ensures.read _))

pub returns-in_err-quoted-2-clause-read : goal.returns-in_err-quoted-2-clause-read
returns-in_err-quoted-2-clause-read c = rw (is_err c.from_residual-in_err-quoted-2.result c.from_residual-in_err-quoted-2.ensures.1) (λ k. simp (c.in_ok-quoted.ensures.read, c.in_ok-v.ensures.read) (c.in_err-quoted-2.ensures.read _))
