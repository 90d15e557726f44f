use Rattle.std.proofs.Common.{sym, ◌∙◌}
use Rattle.msl_grammar.proofs.Exits.{is_err}
use Rattle.msl_script_read.proofs.Items.{closed, not_closed}
use Rattle.msl_script_read.proofs.script.ScriptReader.main.Goals as goal

pub returns-in_err-quoted-clause-main : goal.returns-in_err-quoted-clause-main
returns-in_err-quoted-clause-main c = rw (is_err c.from_residual.result c.from_residual.ensures.1) (c.in_err-quoted.ensures.read _)

pub returns-in_err-main-clause-main : goal.returns-in_err-main-clause-main
returns-in_err-main-clause-main c = rw (is_err c.from_residual-in_err-main.result c.from_residual-in_err-main.ensures.1) (simp c.in_ok-quoted.ensures.read (c.in_err-main.ensures.read _))

pub returns-in_err-quoted-2-clause-main : goal.returns-in_err-quoted-2-clause-main
returns-in_err-quoted-2-clause-main c = rw (is_err c.from_residual-in_err-quoted-2.result c.from_residual-in_err-quoted-2.ensures.1) (simp (c.in_ok-quoted.ensures.read, c.in_ok-main.ensures.read) (c.in_err-quoted-2.ensures.read _))

pub returns-then-not-is_over-clause-main : goal.returns-then-not-is_over-clause-main
returns-then-not-is_over-clause-main c =
    rw c.unexpected.ensures (simp (c.in_ok-quoted.ensures.read, c.in_ok-main.ensures.read, c.in_ok-quoted-2.ensures.read) (not_closed _ c.quoted-2.new.c (sym c.is_over.ensures.over ∙ c.if-not-is_over.true)))

pub returns-clause-main : goal.returns-clause-main
returns-clause-main c =
    simp (c.in_ok-quoted.ensures.read, c.in_ok-main.ensures.read, c.in_ok-quoted-2.ensures.read) (closed _ c.quoted-2.new.c c.is_over.ensures.some (sym c.is_over.ensures.over ∙ c.if-not-is_over.false))
