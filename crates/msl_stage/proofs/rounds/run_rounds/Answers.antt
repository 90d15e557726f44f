use Rattle.msl_stage.specs.Lines.{LineRuns}
use Rattle.msl_stage.proofs.Steps.{line_total}
use Rattle.msl_stage.proofs.Ended.{grew_none, told_memory, ran_flushed}
use Rattle.msl_stage.proofs.rounds.run_rounds.Goals as goal

pub returns-in_default-clause-ran : goal.returns-in_default-clause-ran
returns-in_default-clause-ran g c = record {
  ending = tt;
  grew = grew_none (g.K.Sink.held c.args.out.now);
  ran = told_memory (LineRuns g.O.OneToOne.one c.args.funs.now c.args.line.items) (g.S.Source.left c.args.src.now) (g.K.Sink.held c.args.out.now)
      (line_total g.O.OneToOne.one g.met.O.OneToOne.total c.args.funs.now c.args.line.items c.requires.steps);
}

pub returns-clause-ran : goal.returns-clause-ran
returns-clause-ran g c =
    ran_flushed (LineRuns g.O.OneToOne.one c.args.funs.now c.args.line.items) (g.S.Source.left c.args.src.now) (g.S.Source.left c.stream-end.new.src) (g.K.Sink.held c.args.out.now) (g.K.Sink.held c.stream-end.new.out) (g.K.Sink.held c.flushed.new.out)
    c.stream-end.result c.flushed.result (g.K.Sink.faults c.stream-end.new.out) (g.K.Sink.faults c.flushed.new.out) c.stream-end.ensures.streamed c.flushed.ensures.kept c.flushed.ensures.end
