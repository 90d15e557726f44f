use Rattle.std.proofs.Common.{◌≡◌, ◌<◌, ◌≤◌, ◌+◌, ℕ, length, slice_index_or, vec_capacity}
use Rattle.msl_base.specs.Blocks.{begin, block_of}
use Rattle.msl_fabric.proofs.routes.owners.Given as goal

abbrev pub invariant-loop-m : goal.invariant-loop-m
invariant-loop-m l = record {
  long : length l.all.items ≡ begin l.n l.members l.m;
  within : l.m ≤ l.members;
  room : l.n ≤ vec_capacity l.all;
  each : (i : ℕ) → i < length l.all.items → slice_index_or l.all.items i 0 ≡ block_of l.n l.members i;
}

abbrev pub invariant-loop-i : goal.invariant-loop-i
invariant-loop-i l = record {
  long : length l.all.items ≡ l._i;
  mine : (begin l.n l.members l.m ≤ l._i) × (l._i ≤ begin l.n l.members (l.m + 1));
  room : l.n ≤ vec_capacity l.all;
  each : (i : ℕ) → i < length l.all.items → slice_index_or l.all.items i 0 ≡ block_of l.n l.members i;
}
