use Rattle.std.proofs.Common.{sym, subst}
use Rattle.msl_program.specs.Runs.{RunsMain}
use Rattle.msl_program.proofs.SeqLaws.{seq_run_is}
use Rattle.msl_program.proofs.run_laws.seq_is_a_run.Goals as goal

pub returns-clause-stage : goal.returns-clause-stage
returns-clause-stage c = λ s st h k X. seq_run_is s k st h X

pub returns-clause-main : goal.returns-clause-main
returns-clause-main c = λ s h X Y is. subst (RunsMain s X) (sym is) (seq_run_is s 1 s.main h X)
