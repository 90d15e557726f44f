use Rattle.std.proofs.Common.{◌≤◌, length}
use Rattle.msl_dividing.specs.Dividing.{HoldsParts}
use Rattle.msl_dividing.proofs.dividing.hold.Given as goal

abbrev pub invariant-loop-left : goal.invariant-loop-left
invariant-loop-left l = record {
  most : l.left ≤ length l.parts;
  holds : HoldsParts l.path l.parts l.left l.fn.held.items l.held.items;
}

abbrev pub decreases-loop-left : goal.decreases-loop-left
decreases-loop-left l = l.left
