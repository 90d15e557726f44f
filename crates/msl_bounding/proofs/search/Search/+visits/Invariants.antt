use Rattle.std.proofs.Common.{◌≡◌, ◌+◌, ◌-◌, ◌*◌, length, drop}
use Rattle.msl_base.specs.declared.limits.TheConstants.{MOST_LEVELS}
use Rattle.msl_bounding.specs.Visits.{best_after, visits_from}
use Rattle.msl_bounding.proofs.search.Search.+visits.Given as goal

abbrev pub decreases-visit : goal.decreases-visit
decreases-visit l = 4 * (MOST_LEVELS + 1 - length l.path.now) + 3

abbrev pub decreases-visit_few : goal.decreases-visit_few
decreases-visit_few l = 4 * (MOST_LEVELS + 1 - length l.path.now) + 2

abbrev pub decreases-visit_many : goal.decreases-visit_many
decreases-visit_many l = 4 * (MOST_LEVELS + 1 - length l.path.now) + 2

abbrev pub decreases-visit_all : goal.decreases-visit_all
decreases-visit_all l = 4 * (MOST_LEVELS + 1 - length l.path.now) + 1

abbrev pub decreases-visit_each : goal.decreases-visit_each
decreases-visit_each l = 4 * (MOST_LEVELS + 1 - length l.path.now)

abbrev pub invariant-visit_each-loop-k : goal.invariant-visit_each-loop-k
invariant-visit_each-loop-k l = record {
  same : l.self.nodes ≡ l.fn.self.nodes;
  rest : best_after l.fn.self.nodes l.self.best (visits_from l.fn.self.nodes l.path l.low l.k (drop l.k l.children)) ≡ best_after l.fn.self.nodes l.fn.self.best (visits_from l.fn.self.nodes l.path l.low 0 l.children);
}
