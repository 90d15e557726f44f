use Rattle.std.proofs.Common.{◌≡◌, ◌-◌, ◌≤◌, ◌++◌, vec_len}
use Rattle.msl_outside.specs.Known.{Told}
use Rattle.msl_outside.proofs.whole.read_whole.Given as goal

abbrev pub invariant-pieces : goal.invariant-pieces
invariant-pieces g l = record {
  within : vec_len l.bytes ≤ l.limit;
  faults : g.S.Source.faults l.src ≡ g.S.Source.faults l.fn.src;
  read : Told (g.S.Source.left l.fn.src) (g.S.Source.left l.src) (λ file left. file ≡ l.bytes.items ++ left);
}

abbrev pub decreases-pieces : goal.decreases-pieces
decreases-pieces g l = l.limit - vec_len l.bytes
