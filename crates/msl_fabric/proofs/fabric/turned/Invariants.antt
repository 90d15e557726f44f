use Rattle.std.proofs.Common.{◌≡◌, ◌≤◌}
use Rattle.msl_fabric.proofs.Turns.{RowTurned, SquareTurned}
use Rattle.msl_fabric.proofs.fabric.turned.Given as goal

abbrev pub invariant-loop-i : goal.invariant-loop-i
invariant-loop-i l = (l.i ≤ l.n) × (l.n ≡ l.fn.boxes.n) × SquareTurned l.i l.fn.boxes l.boxes

abbrev pub invariant-loop-j : goal.invariant-loop-j
invariant-loop-j l = (l.j ≤ l.i) × RowTurned l.i l.j l.initial.boxes l.boxes
