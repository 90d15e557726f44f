use Rattle.std.proofs.Common.{◌≡◌, ◌+◌, ◌≤◌, ◌++◌}
use Rattle.std.specs.VecDeque.{deque_len, deque_capacity}
use Rattle.msl_base.specs.Covers.{children}
use Rattle.msl_base.specs.declared.limits.TheConstants.{MOST_CHILDREN}
use Rattle.msl_core.proofs.node.push_children.Given as goal

abbrev pub invariant-loop-left : goal.invariant-loop-left
invariant-loop-left l = record {
  room : deque_len l.held + l.left ≤ deque_capacity l.held;
  few : l.left ≤ MOST_CHILDREN;
  so_far : l.held.items ++ children l.path l.left ≡ l.fn.held.items ++ children l.path l.fn.count;
}

abbrev pub decreases-loop-left : goal.decreases-loop-left
decreases-loop-left l = l.left
