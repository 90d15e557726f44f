use Rattle.std.proofs.Common.{◌≡◌, ◌+◌, ◌++◌, take}
use Rattle.msl_matrix.proofs.rows.put_all.Given as goal

abbrev pub invariant-loop-x : goal.invariant-loop-x
invariant-loop-x l = record {
  numbers : l.all.numbers ≡ l.fn.all.numbers ++ take l.x-index l.xs;
  room : l.all.spare + l.x-index ≡ l.fn.all.spare;
}
