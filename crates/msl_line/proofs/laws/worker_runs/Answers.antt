use Rattle.msl_line.proofs.Outcomes.{does_means}
use Rattle.msl_line.proofs.laws.worker_runs.Goals as goal

pub returns : goal.returns
returns g c = λ how s st fits k x r d. does_means s how k st fits x r d
