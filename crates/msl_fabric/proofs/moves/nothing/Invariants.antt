use Rattle.std.proofs.Common.{◌≡◌, ◌≤◌, length, vec_capacity}
use Rattle.msl_fabric.proofs.moves.nothing.Given as goal

abbrev pub invariant-loop-i : goal.invariant-loop-i
invariant-loop-i l = (length l.all.items ≡ l._i) × (l._i ≤ l.n) × (l.n ≤ vec_capacity l.all)
