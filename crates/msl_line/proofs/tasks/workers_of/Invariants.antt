use Rattle.std.proofs.Common.{◌≡◌}
use Rattle.std.specs.Prelude.{replicate}
use Rattle.msl_line.specs.Lines.{duties_of}
use Rattle.msl_line.proofs.tasks.workers_of.Given as goal

abbrev pub invariant-loop : goal.invariant-loop
invariant-loop g l = l.workers.items ≡ replicate l.counter (duties_of l.fn.how l.fn.script l.fn.number l.fn.stage)
