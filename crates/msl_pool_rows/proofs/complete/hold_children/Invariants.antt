use Rattle.std.proofs.Common.{◌≤◌}
use Rattle.msl_pool_rows.specs.Holding.{HoldsChildren}
use Rattle.msl_pool_rows.proofs.complete.hold_children.Given as goal

abbrev pub invariant-loop-left : goal.invariant-loop-left
invariant-loop-left l = record {
  most : l.left ≤ 3;
  holds : HoldsChildren 3 l.left l.at.path l.fn.held.items l.held.items;
}

abbrev pub decreases-loop-left : goal.decreases-loop-left
decreases-loop-left l = l.left
