use Rattle.std.proofs.Common.{◌≡◌, ◌≤◌, ◌++◌, length, vec_capacity}
use Rattle.msl_local.specs.Folds.{all_of}
use Rattle.msl_local.proofs.hands.in_order.Given as goal

abbrev pub invariant-loop-left : goal.invariant-loop-left
invariant-loop-left l = record {
  so_far : l.all.items ++ all_of l.left.items ≡ all_of l.fn.hands.items;
  room : length (all_of l.fn.hands.items) ≤ vec_capacity l.all;
}

abbrev pub decreases-loop-left : goal.decreases-loop-left
decreases-loop-left l = goal.left-loop-left l
