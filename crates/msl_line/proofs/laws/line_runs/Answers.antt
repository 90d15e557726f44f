use Rattle.msl_line.proofs.Runs.{line_means}
use Rattle.msl_line.proofs.laws.line_runs.Goals as goal

pub returns : goal.returns
returns g c = λ how s st fits k ss X Y is l. line_means s how k st ss X Y fits is l
