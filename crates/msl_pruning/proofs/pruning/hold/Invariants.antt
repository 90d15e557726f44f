use Rattle.std.proofs.Common.{◌≤◌, length}
use Rattle.msl_pruning.specs.Visiting.{HoldsChildren}
use Rattle.msl_pruning.proofs.pruning.hold.Given as goal

abbrev pub invariant-loop-left : goal.invariant-loop-left
invariant-loop-left l = record {
  most : l.left ≤ length l.children;
  holds : HoldsChildren l.fn.path l.low l.children l.left l.fn.held.items l.held.items;
}

abbrev pub decreases-loop-left : goal.decreases-loop-left
decreases-loop-left l = l.left
