use Rattle.std.proofs.Common.{◌≡◌, ◌≤◌, ◌+◌, length, take}
use Rattle.msl_local.specs.Parts.{flat}
use Rattle.msl_array.proofs.parts.all_of.Given as goal

abbrev pub invariant-loop-part : goal.invariant-loop-part
invariant-loop-part l = record {
  numbers : l.all.numbers ≡ flat (take l.part-index l.parts);
  room : length (flat l.parts) ≤ l.all.spare + length l.all.numbers;
}
