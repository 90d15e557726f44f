use Rattle.msl_array.specs.Moves.{ArePut}
use Rattle.msl_array.proofs.targets.put_part.Given as goal

abbrev pub invariant-loop-i : goal.invariant-loop-i
invariant-loop-i l = ArePut l.fn.all l.targets l.xs l.i l.all
