use Rattle.std.proofs.Common.{◌≡◌}
use Rattle.msl_local.specs.Parts.{start}
use Rattle.msl_local.proofs.parts.start.Given as goal

abbrev pub invariant-loop-k : goal.invariant-loop-k
invariant-loop-k l = l.total ≡ start l.parts l.k
