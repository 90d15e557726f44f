use Rattle.std.proofs.Common.{◌≡◌}
use Rattle.msl_demo_laws.specs.Laws.{demo_input}
use Rattle.msl_demo.proofs.input.demo_input.Given as goal

abbrev pub invariant-loop-k : goal.invariant-loop-k
invariant-loop-k l = l.text.items ≡ demo_input l.k
