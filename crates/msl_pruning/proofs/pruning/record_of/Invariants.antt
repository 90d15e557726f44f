use Rattle.std.proofs.Common.{◌≡◌, ◌∷◌, take}
use Rattle.msl_pruning.proofs.pruning.record_of.Given as goal

abbrev pub invariant-loop-y : goal.invariant-loop-y
invariant-loop-y l = record {
  numbers : l.r.numbers ≡ l.fn.value ∷ take l.y-index l.x;
}
