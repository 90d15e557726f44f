use Rattle.std.proofs.Common.{refl}
use Rattle.msl_run.proofs.Scripts.{wrote_flushed, wrote_part}
use Rattle.msl_run.proofs.run.put.Goals as goal

pub returns-in-Ok-clause-wrote : goal.returns-in-Ok-clause-wrote
returns-in-Ok-clause-wrote g c =
    wrote_flushed _ c.args.text.now refl (g.K.Sink.held c.args.out.now) (g.K.Sink.held c.write_text.new.sink) (g.K.Sink.held c.flushed.new.out) c.flushed.result (g.K.Sink.faults c.write_text.new.sink) (g.K.Sink.faults c.flushed.new.out)
    c.in-Ok.ensures.ok c.flushed.ensures.kept c.flushed.ensures.status

pub returns-in-Err-clause-wrote : goal.returns-in-Err-clause-wrote
returns-in-Err-clause-wrote g c = wrote_part _ c.args.text.now refl (g.K.Sink.held c.args.out.now) (g.K.Sink.held c.write_text.new.sink) c.in-Err.ensures.err
