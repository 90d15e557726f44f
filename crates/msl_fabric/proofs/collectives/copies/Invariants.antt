use Rattle.std.proofs.Common.{◌≡◌, ◌≤◌, length, replicate, vec_capacity}
use Rattle.msl_fabric.specs.Grids.{records}
use Rattle.msl_fabric.proofs.collectives.copies.Given as goal

abbrev pub invariant-loop-i : goal.invariant-loop-i
invariant-loop-i l = (length l.all.items ≡ l._i) × (l._i ≤ l.n) × (l.n ≤ vec_capacity l.all) × (records l.all.items ≡ replicate l._i l.x.numbers)
