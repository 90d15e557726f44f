use Rattle.msl_program.proofs.OneLaws.{has_outcomes, has_one_outcome}
use Rattle.msl_program.proofs.run_laws.records_have_outcomes.Goals as goal

pub returns : goal.returns
returns c = record { total = has_outcomes; only = has_one_outcome }
