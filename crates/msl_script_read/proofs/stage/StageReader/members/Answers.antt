use Rattle.msl_grammar.proofs.Exits.{is_err}
use Rattle.msl_script_read.proofs.stage.StageReader.members.Goals as goal

pub returns-in_err-d-clause-read : goal.returns-in_err-d-clause-read
returns-in_err-d-clause-read g c = rw (is_err c.from_residual.result c.from_residual.ensures.1) (λ k. c.in_err-d.ensures.read _)

pub returns-in_err-quoted-clause-read : goal.returns-in_err-quoted-clause-read
returns-in_err-quoted-clause-read g c = rw (is_err c.from_residual-in_err-quoted.result c.from_residual-in_err-quoted.ensures.1) (λ k. simp (c.in_ok-d.ensures.read) (c.in_err-quoted.ensures.read _))

pub returns-in_err-members-clause-read : goal.returns-in_err-members-clause-read
returns-in_err-members-clause-read g c = rw (is_err c.from_residual-in_err-members.result c.from_residual-in_err-members.ensures.1) (λ k. simp (c.in_ok-d.ensures.read, c.in_ok-quoted.ensures.read) (c.in_err-members.ensures.read _))
