use Rattle.std.proofs.Common.{◌≡◌, drop}
use Rattle.msl_base.specs.Streams.{Outcome}
use Rattle.msl_line.specs.Duties.{Does}
use Rattle.msl_line.proofs.worker.Worker.through.Given as goal

-- what the tasks that are left make of the record is what all make of the first
abbrev pub invariant-loop-i : goal.invariant-loop-i
invariant-loop-i g l = record {
  same : l.self-inside.tasks.items ≡ l.fn.self;
  goes : (r : Outcome) → Does (drop l.i l.fn.self) l.x.numbers r → Does l.fn.self l.initial.x.numbers r;
}
