use Rattle.std.proofs.Common.{◌≡◌}
use Rattle.msl_core.specs.Groups.{rooted}
use Rattle.msl_core.proofs.group.Group.new.Given as goal

abbrev pub invariant-loop-i : goal.invariant-loop-i
invariant-loop-i l = l.nodes.items ≡ rooted l.i l.start 0
