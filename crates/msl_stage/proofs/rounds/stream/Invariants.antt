use Rattle.std.proofs.Common.{◌≡◌, ◌+◌, ◌-◌, ◌≤◌, ◌++◌}
use Rattle.msl_io.specs.Known.{Told}
use Rattle.msl_io.specs.Reader.{MayGoOn}
use Rattle.msl_stage.specs.Endings.{Grew}
use Rattle.msl_stage.specs.Lines.{AreSteps, LineRuns}
use Rattle.msl_stage.proofs.Ended.{Grows, StandsAt}
use Rattle.msl_stage.proofs.rounds.stream.Given as goal

abbrev pub invariant-records : goal.invariant-records
invariant-records g l = record {
  stands : Told (g.S.Source.left l.initial.src) (g.S.Source.left l.src) (λ input left. Grew (g.K.Sink.held l.initial.out) (g.K.Sink.held l.out)
      (λ written. StandsAt (LineRuns g.O.OneToOne.one l.initial.run.funs.now l.run.steps.items) (LineRuns g.O.OneToOne.one l.initial.run.funs.now l.initial.run.steps.items)
      input (l.reader.rest ++ left) left written (l.reader.read + 1) l.reader.stopped));
  grew : Grows (g.K.Sink.held l.initial.out) (g.K.Sink.held l.out);
  steps : AreSteps g.O.OneToOne.one l.initial.run.funs.now l.run.steps.items;
  funs : l.run.funs ≡ l.initial.run.funs;
  going : MayGoOn l.reader.stopped;
  lines : l.reader.lines ≡ 4294967295;
  within : l.reader.read ≤ l.reader.lines;
  source : g.S.Source.faults l.src ≡ g.S.Source.faults l.initial.src;
  sink : g.K.Sink.faults l.out ≡ g.K.Sink.faults l.initial.out;
}

abbrev pub decreases-records : goal.decreases-records
decreases-records g l = l.reader.lines - l.reader.read
