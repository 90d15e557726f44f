use Rattle.std.proofs.Common.{◌≡◌, ◌≤◌, ℕ, length, take}
use Rattle.msl_fabric.specs.Grids.{IsWhole, box_at}
use Rattle.msl_fabric.proofs.Rows.{FilledFrom}
use Rattle.msl_fabric.proofs.lines.put_column.Given as goal

abbrev pub invariant-loop-part : goal.invariant-loop-part
invariant-loop-part l = record {
  side : l.boxes.n ≡ l.fn.boxes.n;
  whole : IsWhole l.boxes;
  within : l.i ≤ l.fn.boxes.n;
  long : length l.parts.items ≡ l.i;
  left : l.parts.items ≡ take l.i l.fn.parts.items;
  put : FilledFrom l.i (λ (m : ℕ). box_at l.boxes m l.j) l.fn.parts.items;
}

abbrev pub decreases-loop-part : goal.decreases-loop-part
decreases-loop-part l = goal.left-loop-part l
