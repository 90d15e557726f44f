use Rattle.std.proofs.Common.{◌∙◌}
use Rattle.msl_run.proofs.Texts.{told}
use Rattle.msl_run.proofs.message.tell.Goals as goal

pub returns-in-Ok : goal.returns-in-Ok
returns-in-Ok g c =
    told c.args.status.now (g.E.Sink.held c.args.err.now) (g.E.Sink.held c.write_text.new.sink) (g.E.Sink.held c.flush.new.self) (g.E.Sink.flushed c.flush.new.self) c.as_slice.result.now
    (g.E.Sink.faults c.args.err.now) (g.E.Sink.faults c.write_text.new.sink) (g.E.Sink.faults c.flush.new.self) c.flush.result (c.as_slice.ensures ∙ c.message-message.ensures) c.in-Ok.ensures.ok c.in-Ok.ensures.cause c.flush.ensures.same c.flush.ensures.flushed c.flush.ensures.cause
