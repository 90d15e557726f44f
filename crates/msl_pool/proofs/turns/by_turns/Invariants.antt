use Rattle.msl_pool.specs.Turning.{open_in}
use Rattle.msl_pool.proofs.Keeping.{Keeps, weight}
use Rattle.msl_pool.proofs.turns.by_turns.Given as goal

abbrev pub invariant-loop-at : goal.invariant-loop-at
invariant-loop-at g l = Keeps (g.S.Search.is_node l.search) (g.S.Search.has l.search) l.ring.items

abbrev pub decreases-loop-at : goal.decreases-loop-at
decreases-loop-at g l = weight (open_in l.ring.items)
