use Rattle.std.proofs.Common.{◌≡◌, ◌≤◌, ◌<◌, ℕ, length, map, vec_capacity}
use Rattle.std.specs.List.{range_with_len}
use Rattle.msl_fabric.specs.Grids.{IsWhole, box_at, records}
use Rattle.msl_fabric.proofs.lines.take_column.Given as goal

abbrev pub invariant-loop-i : goal.invariant-loop-i
invariant-loop-i l = record {
  side : l.n ≡ l.fn.boxes.n;
  same : l.boxes.n ≡ l.fn.boxes.n;
  whole : IsWhole l.boxes;
  long : length l.all.items ≡ l.i;
  within : l.i ≤ l.n;
  room : l.n ≤ vec_capacity l.all;
  taken : records l.all.items ≡ map (λ (m : ℕ). box_at l.fn.boxes m l.j) (range_with_len 0 l.i);
  rest : (m : ℕ) → l.i ≤ m → m < l.n → box_at l.boxes m l.j ≡ box_at l.fn.boxes m l.j;
}
