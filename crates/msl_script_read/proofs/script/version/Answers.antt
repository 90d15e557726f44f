use Rattle.msl_grammar.proofs.Exits.{is_err}
use Rattle.msl_script_read.proofs.script.version.Goals as goal

pub returns-in_err-quoted : goal.returns-in_err-quoted
returns-in_err-quoted c = rw (is_err c.from_residual.result c.from_residual.ensures.1) (λ s. c.in_err-quoted.ensures.read _)

pub returns-in_err-version_number : goal.returns-in_err-version_number
returns-in_err-version_number c = rw (is_err c.from_residual-in_err-version_number.result c.from_residual-in_err-version_number.ensures.1) (λ s. simp c.in_ok-quoted.ensures.read (c.in_err-version_number.ensures _))

pub returns-in_err-quoted-2 : goal.returns-in_err-quoted-2
returns-in_err-quoted-2 c = rw (is_err c.from_residual-in_err-quoted-2.result c.from_residual-in_err-quoted-2.ensures.1) (λ s. simp (c.in_ok-quoted.ensures.read, c.in_ok-version_number.ensures) (c.in_err-quoted-2.ensures.read _))
