use Rattle.std.proofs.Common.{◌≡◌, length, take}
use Rattle.msl_local.specs.Parts.{flat}
use Rattle.msl_array.specs.Moves.{AreMarked}
use Rattle.msl_array.proofs.targets.is_permutation.Given as goal

abbrev pub invariant-loop-part : goal.invariant-loop-part
invariant-loop-part l = record {
  marked : AreMarked l.marks.items (flat (take l.part-index l.targets));
  long : length l.marks.items ≡ length (flat l.targets);
}
