use Rattle.std.proofs.Common.{◌≡◌, length}
use Rattle.msl_io.specs.Writing.{Wrote}
use Rattle.msl_io.proofs.write.write_text.Given as goal

abbrev pub invariant-loop-rest : goal.invariant-loop-rest
invariant-loop-rest g l = record {
  wrote : Wrote (g.K.Sink.held l.fn.sink) (g.K.Sink.held l.sink) l.bytes l.rest;
  count : g.K.Sink.faults l.sink ≡ g.K.Sink.faults l.fn.sink;
}

abbrev pub decreases-loop-rest : goal.decreases-loop-rest
decreases-loop-rest g l = length l.rest
