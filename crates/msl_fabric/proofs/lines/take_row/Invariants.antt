use Rattle.std.proofs.Common.{◌≡◌, ◌≤◌, ◌<◌, ℕ, length, map, vec_capacity}
use Rattle.std.specs.List.{range_with_len}
use Rattle.msl_fabric.specs.Grids.{IsWhole, box_at, records}
use Rattle.msl_fabric.proofs.lines.take_row.Given as goal

abbrev pub invariant-loop-j : goal.invariant-loop-j
invariant-loop-j l = record {
  side : l.n ≡ l.fn.boxes.n;
  same : l.boxes.n ≡ l.fn.boxes.n;
  whole : IsWhole l.boxes;
  long : length l.all.items ≡ l.j;
  within : l.j ≤ l.n;
  room : l.n ≤ vec_capacity l.all;
  taken : records l.all.items ≡ map (box_at l.fn.boxes l.i) (range_with_len 0 l.j);
  rest : (m : ℕ) → l.j ≤ m → m < l.n → box_at l.boxes l.i m ≡ box_at l.fn.boxes l.i m;
}
