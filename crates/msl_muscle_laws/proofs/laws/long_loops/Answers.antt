use Rattle.msl_muscle_laws.proofs.Examples.{last_index}
use Rattle.msl_muscle_laws.proofs.laws.long_loops.Goals as goal

pub returns : goal.returns
returns c = λ n. last_index n
