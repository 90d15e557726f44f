use Rattle.std.proofs.Common.{◌≡◌, take}
use Rattle.msl_line.proofs.desk.overwrite.Given as goal

abbrev pub invariant-loop-y : goal.invariant-loop-y
invariant-loop-y l = record {
  numbers : l.x.numbers ≡ take l.y-index l.ys;
}
