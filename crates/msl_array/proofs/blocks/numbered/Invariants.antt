use Rattle.std.proofs.Common.{◌≡◌, ◌≤◌, pos, vec_capacity}
use Rattle.msl_lists.specs.Whole.{list_by}
use Rattle.msl_array.proofs.blocks.numbered.Given as goal

abbrev pub invariant-loop-i : goal.invariant-loop-i
invariant-loop-i l = record {
  list : l.numbers.items ≡ list_by l.i pos;
  room : l.n ≤ vec_capacity l.numbers;
}
