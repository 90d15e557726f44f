use Rattle.msl_pool.specs.Turning.{Starts}
use Rattle.msl_pool.proofs.turns.started.Given as goal

abbrev pub invariant-loop : goal.invariant-loop
invariant-loop g l = Starts l.fn.root l.ring.items
