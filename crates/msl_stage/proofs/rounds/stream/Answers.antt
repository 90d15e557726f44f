use Rattle.std.proofs.Common.{arith, ◌+◌, ◌≤◌, ◌++◌, ℕ, List, [], ◌∷◌, ap, sym, refl, ◌∙◌, subst, Ok, Err, Bor}
use Rattle.msl_base.specs.declared.fault.End.{End}
use Rattle.msl_fun.specs.declared.funs.Fun.{Fun}
use Rattle.msl_io.specs.Known.{Told}
use Rattle.msl_io.specs.Reader.{Reader, MayGoOn}
use Rattle.msl_stage.specs.Endings.{Grew, Causes, ends}
use Rattle.msl_stage.specs.Lines.{AreSteps, LineRuns}
use Rattle.msl_stage.specs.Feeding.{end_by}
use Rattle.msl_stage.specs.Reading.{ClosedWith, StreamedTold}
use Rattle.msl_stage.proofs.Steps.{line_total, line_passes}
use Rattle.msl_stage.proofs.Feeding.{fed_at_start}
use Rattle.msl_stage.proofs.Ended.{StandsAt, told_from, told_next, told_stopped, told_closed, told_whole, counted, grew_none, grew_fed, grew_closed, fed_ending, closed_ending, take_ending, fed_cause}
use Rattle.msl_stage.proofs.rounds.stream.Goals as goal

pub records-init : goal.records-init
records-init g c =
    let is = c.requires.fresh in
    let a = g.S.Source.left c.args.src.now in
    let h = g.K.Sink.held c.args.out.now in
    let R = LineRuns g.O.OneToOne.one c.args.run.now.funs.now c.args.run.now.steps.items in
    record {
      stands = subst (λ (r : Reader). Told a a (λ input left. Grew h h (λ w. StandsAt R R input (r.rest ++ left) left w (r.read + 1) r.stopped))) (sym is) (told_from R a h);
      grew = grew_none h;
      steps = c.requires.steps;
      funs = refl;
      going = subst (λ (r : Reader). MayGoOn r.stopped) (sym is) tt;
      lines = ap (λ (r : Reader). r.lines) is;
      within = omega (arith, ap (λ (r : Reader). r.lines) is, ap (λ (r : Reader). r.read) is);
      source = refl;
      sink = refl;
    }

pub records-preserved : goal.records-preserved
records-preserved g c =
    let inv = c.records.invariant in
    let one = g.O.OneToOne.one in
    let a = g.S.Source.left c.args.src.now in
    let b = g.S.Source.left c.records.src in
    let d = g.S.Source.left c.take_record.new.src in
    let h = g.K.Sink.held c.args.out.now in
    let k = g.K.Sink.held c.records.out in
    let l = g.K.Sink.held c.feed.new.out in
    let old = c.records.reader in
    let new = c.take_record.new.reader in
    let R = LineRuns one c.args.run.now.funs.now c.args.run.now.steps.items in
    let R' = LineRuns one c.args.run.now.funs.now c.records.run.steps.items in
    let R'' = LineRuns one c.args.run.now.funs.now c.feed.new.self.steps.items in
    let takes = rw c.in-Ok-Some.field-0-is at c.in-Ok-Some.ensures.takes in
    let counts = counted old.stopped b d old new c.in-Ok-Some.rec takes in
    let same = c.reuse.ensures in
    let fed = fed_at_start one (Unit {0}) c.records.run.funs c.args.run.now.funs c.records.run.steps.items c.feed.new.self.steps.items (c.in-Ok-Some.rec.numbers ∷ []) (Ok (tt {0})) k l inv.funs c.in-Ok.ensures.fed in
    let stands = told_next R' R a b d h k l old new (Unit {0}) R'' old.stopped c.in-Ok-Some.rec (tt {0}) inv.stands takes fed in
    record {
      stands = subst (λ (r : Reader). Told a d (λ input left. Grew h l (λ w. StandsAt R'' R input (r.rest ++ left) left w (r.read + 1) r.stopped))) (sym same) stands;
      grew = grew_fed (Unit {0}) R'' R' (c.in-Ok-Some.rec.numbers ∷ []) (Ok (tt {0})) h k l inv.grew fed;
      steps = subst (λ (fs : Bor (List Fun)). AreSteps one fs.now c.feed.new.self.steps.items) inv.funs c.in-Ok.ensures.steps;
      funs = c.in-Ok.ensures.funs ∙ inv.funs;
      going = subst (λ (r : Reader). MayGoOn r.stopped) (sym same) counts.2;
      lines = ap (λ (r : Reader). r.lines) same ∙ c.in-Ok-Some.ensures.lines;
      within = subst (λ (r : Reader). r.read ≤ r.lines) (sym same) counts.1;
      source = c.in-Ok-Some.ensures.cause ∙ inv.source;
      sink = c.in-Ok.ensures.cause ∙ inv.sink;
    }

pub returns-in-Err-feed-clause-streamed : goal.returns-in-Err-feed-clause-streamed
returns-in-Err-feed-clause-streamed g c =
    let inv = c.records.invariant in
    let one = g.O.OneToOne.one in
    let h = g.K.Sink.held c.args.out.now in
    let k = g.K.Sink.held c.records.out in
    let l = g.K.Sink.held c.feed.new.out in
    let e = end_by c.in-Err-feed.stop c.feed.new.self.why in
    let R = LineRuns one c.args.run.now.funs.now c.args.run.now.steps.items in
    let R' = LineRuns one c.args.run.now.funs.now c.records.run.steps.items in
    let R'' = LineRuns one c.args.run.now.funs.now c.feed.new.self.steps.items in
    let fed = fed_at_start one (Unit {0}) c.records.run.funs c.args.run.now.funs c.records.run.steps.items c.feed.new.self.steps.items (c.in-Ok-Some.rec.numbers ∷ []) (Err e) k l inv.funs c.in-Err-feed.ensures.fed in
    subst (λ (q : End). StreamedTold R (ends (g.S.Source.left c.args.src.now) (g.S.Source.left c.take_record.new.src) h l) q) (sym c.end.ensures)
    (record {
      ending = fed_ending (Unit {0}) R'' R' (c.in-Ok-Some.rec.numbers ∷ []) e k l fed;
      grew = grew_fed (Unit {0}) R'' R' (c.in-Ok-Some.rec.numbers ∷ []) (Err e) h k l inv.grew fed;
      ran = told_stopped R' R (g.S.Source.left c.args.src.now) (g.S.Source.left c.records.src) (g.S.Source.left c.take_record.new.src) h k l c.records.reader c.take_record.new.reader
          (Unit {0}) R'' c.records.reader.stopped c.in-Ok-Some.rec e inv.stands (rw c.in-Ok-Some.field-0-is at c.in-Ok-Some.ensures.takes) fed;
    })

pub returns-in-Err-feed-clause-cause : goal.returns-in-Err-feed-clause-cause
returns-in-Err-feed-clause-cause g c =
    let inv = c.records.invariant in
    let one = g.O.OneToOne.one in
    let k = g.K.Sink.held c.records.out in
    let l = g.K.Sink.held c.feed.new.out in
    let e = end_by c.in-Err-feed.stop c.feed.new.self.why in
    let R' = LineRuns one c.args.run.now.funs.now c.records.run.steps.items in
    let R'' = LineRuns one c.args.run.now.funs.now c.feed.new.self.steps.items in
    let fed = fed_at_start one (Unit {0}) c.records.run.funs c.args.run.now.funs c.records.run.steps.items c.feed.new.self.steps.items (c.in-Ok-Some.rec.numbers ∷ []) (Err e) k l inv.funs c.in-Err-feed.ensures.fed in
    subst (λ (q : End). Causes q (g.S.Source.faults c.args.src.now) (g.S.Source.faults c.take_record.new.src) (g.K.Sink.faults c.args.out.now) (g.K.Sink.faults c.feed.new.out)) (sym c.end.ensures)
    (subst (λ (n : ℕ). Causes e (g.S.Source.faults c.args.src.now) (g.S.Source.faults c.take_record.new.src) n (g.K.Sink.faults c.feed.new.out)) inv.sink
    (fed_cause (Unit {0}) R'' R' (c.in-Ok-Some.rec.numbers ∷ []) e k l (g.S.Source.faults c.args.src.now) (g.S.Source.faults c.take_record.new.src) (g.K.Sink.faults c.records.out) (g.K.Sink.faults c.feed.new.out) fed
    (c.in-Ok-Some.ensures.cause ∙ inv.source) c.in-Err-feed.ensures.cause))

pub returns-in-Ok-None-clause-streamed : goal.returns-in-Ok-None-clause-streamed
returns-in-Ok-None-clause-streamed g c =
    let inv = c.records.invariant in
    let one = g.O.OneToOne.one in
    let h = g.K.Sink.held c.args.out.now in
    let k = g.K.Sink.held c.records.out in
    let l = g.K.Sink.held c.close.new.out in
    let R = LineRuns one c.args.run.now.funs.now c.args.run.now.steps.items in
    let R' = LineRuns one c.args.run.now.funs.now c.records.run.steps.items in
    let closed = subst (λ (fs : Bor (List Fun)). ClosedWith (LineRuns one fs.now c.records.run.steps.items) c.close.result k l) inv.funs c.close.ensures.closed in
    record {
      ending = closed_ending R' c.close.result k l closed;
      grew = grew_closed R' c.close.result h k l inv.grew closed;
      ran = told_whole R' R (g.S.Source.left c.args.src.now) (g.S.Source.left c.records.src) (g.S.Source.left c.take_record.new.src) h k l c.records.reader c.take_record.new.reader
          c.records.reader.stopped c.close.result inv.stands inv.going (rw c.in-Ok-None.field-0-is at c.in-Ok-None.ensures.takes) closed;
    }

pub returns-in-Err-clause-streamed : goal.returns-in-Err-clause-streamed
returns-in-Err-clause-streamed g c =
    let inv = c.records.invariant in
    let one = g.O.OneToOne.one in
    let total = g.met.O.OneToOne.total in
    let funs = c.args.run.now.funs.now in
    let ss = c.records.run.steps.items in
    let h = g.K.Sink.held c.args.out.now in
    let k = g.K.Sink.held c.records.out in
    let R = LineRuns one funs c.args.run.now.steps.items in
    let R' = LineRuns one funs ss in
    record {
      ending = take_ending c.in-Err.end (g.S.Source.faults c.records.src) (g.S.Source.faults c.take_record.new.src) c.in-Err.ensures.cause;
      grew = inv.grew;
      ran = told_closed R' R (g.S.Source.left c.args.src.now) (g.S.Source.left c.records.src) (g.S.Source.left c.take_record.new.src) h k k c.records.reader c.take_record.new.reader
          (line_total one total funs ss inv.steps) (line_passes one total funs ss) c.records.reader.stopped c.in-Err.end refl inv.stands c.in-Err.ensures.takes;
    }
