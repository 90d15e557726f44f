use Rattle.std.proofs.Common.{◌≡◌, ◌≤◌, ◌+◌, ◌-◌, map, vec_len, vec_capacity}
use Rattle.std.specs.List.{range_with_len}
use Rattle.msl_matrix.specs.Grids.{extent_of}
use Rattle.msl_matrix.specs.Rotations.{goes_to}
use Rattle.msl_matrix.proofs.rotations.places.Given as goal

abbrev pub invariant-loop-i : goal.invariant-loop-i
invariant-loop-i l = record {
  to : l.to.items ≡ map (goes_to l.axis (extent_of l.shape) l.by) (range_with_len 0 l.i);
  room : vec_len l.to + (l.n - l.i) ≤ vec_capacity l.to;
}
