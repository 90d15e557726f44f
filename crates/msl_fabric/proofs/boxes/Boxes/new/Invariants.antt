use Rattle.std.proofs.Common.{◌≡◌, ◌≤◌, ◌*◌, [], length, replicate, vec_capacity}
use Rattle.msl_fabric.specs.Grids.{records}
use Rattle.msl_fabric.proofs.boxes.Boxes.new.Given as goal

abbrev pub invariant-loop-i : goal.invariant-loop-i
invariant-loop-i l =
    (length l.boxes.items ≡ l._i) × (l._i ≤ l.side * l.side) × (l.side * l.side ≤ vec_capacity l.boxes) × (records l.boxes.items ≡ replicate l._i [])
