use Rattle.std.proofs.Common.{◌≡◌, ◌≤◌, ◌+◌, ◌-◌, length, take, vec_len, vec_capacity}
use Rattle.msl_fabric.specs.Grids.{records}
use Rattle.msl_matrix.specs.Rotations.{as_records}
use Rattle.msl_matrix.proofs.rotations.copied.Given as goal

abbrev pub invariant-loop-block : goal.invariant-loop-block
invariant-loop-block l = record {
  copies : records l.all.items ≡ as_records (take l.block-index l.blocks);
  room : vec_len l.all + (length l.blocks - l.block-index) ≤ vec_capacity l.all;
}
