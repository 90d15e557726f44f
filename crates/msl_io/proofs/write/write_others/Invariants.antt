use Rattle.std.proofs.Common.{◌≡◌, ◌++◌, ◌≤◌, ◌+◌, drop, length}
use Rattle.msl_io.specs.Writing.{Wrote, others}
use Rattle.msl_io.proofs.write.write_others.Given as goal

abbrev pub invariant-loop-x : goal.invariant-loop-x
invariant-loop-x g l = record {
  wrote : Wrote (g.K.Sink.held l.fn.sink) (g.K.Sink.held l.sink) (l.fn.piece ++ others l.xs) (l.piece ++ others (drop l.x-index l.xs));
  count : g.K.Sink.faults l.sink ≡ g.K.Sink.faults l.fn.sink;
  room : length l.piece + 1 ≤ 320;
}
