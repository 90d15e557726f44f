use Rattle.std.proofs.Common.{arith, ◌≡◌, ◌<◌, ◌+◌, ℕ, List, [], ◌∷◌, length, refl, sym, ap, ◌∙◌, subst, slice_set, Bor, Result, Err}
use Rattle.std.proofs.lemmas.Result.{err_from_is_err_and}
use Rattle.std.specs.Io.KnownBytes.{Keeps}
use Rattle.std.proofs.KnownBytes.{Keeps-refl}
use Rattle.msl_base.specs.Records.{Kept}
use Rattle.msl_base.specs.Streams.{Record}
use Rattle.msl_base.specs.declared.fault.End.{End}
use Rattle.msl_fun.specs.declared.funs.Fun.{Fun}
use Rattle.msl_program.specs.Filters.{stepped}
use Rattle.msl_program.specs.Promises.{FilterFits}
use Rattle.msl_stage.specs.Answers.{StepsTo}
use Rattle.msl_stage.specs.Lines.{AreSteps, AnyOf}
use Rattle.msl_stage.specs.Feeding.{FeedCause, Feeds, Spreads, end_by, end_of, ended}
use Rattle.msl_stage.specs.declared.run.Run.{Run}
use Rattle.msl_stage.specs.declared.run.Stop.{Stop}
use Rattle.msl_stage.specs.declared.step.Step.TheVariants.{One, Filter, Farm}
use Rattle.msl_stage.proofs.Feeding.{here_in, set_same, is_at, are_set, long_set, feeds_through, feeds_halts, feeds_filter, filter_is_step, feeds_none, outs_more, outs_stopped, outs_all}
use Rattle.msl_stage.proofs.Steps.{one_goes, one_stops, farm_goes, farm_stops}
use Rattle.msl_stage.proofs.run.Run.+feed.Goals as goal
use Rattle.msl_stage.proofs.run.Run.+feed.Goals.{feed-in-One+in-Ok, feed-in-Farm+in-Ok-work}

pub feed-returns-in-Err-clause-fed : goal.feed-returns-in-Err-clause-fed
feed-returns-in-Err-clause-fed g t c =
    let inv = c.loop-at.invariant in
    let one = g.O.OneToOne.one in
    let total = g.met.O.OneToOne.total in
    let funs = c.args.self.now.funs.now in
    let ss = c.args.self.now.steps.items in
    let at = c.loop-at.at in
    let lt : at < length ss = omega (arith, c.loop-at-test.true, c.len-at-end.ensures, c.args.self.now.steps.ok.0) in
    let here = here_in ss c.loop-at.self.steps.items at c.index_mut.result.now (One c.in-One.one) inv.steps c.index_mut.ensures.value c.in-One.is in
    let s' = One c.work.new.self in
    let x = c.loop-at.rec.numbers in
    let new = slice_set c.loop-at.self.steps.items at s' in
    let same = ap (λ xs. slice_set xs at s') inv.steps in
    let h = g.K.Sink.held c.args.out.now in
    let l = g.K.Sink.held c.loop-at.out in
    let kept = subst (λ o. Keeps h (g.K.Sink.held o)) (sym inv.out) (Keeps-refl h) in
    inv.rest new (Err (end_of c.work.new.why)) h l
    (feeds_halts one total funs ss (slice_set ss at s') new at s' (One c.in-One.one) lt here refl (x ∷ []) (Unit {0}) (Unit {0}) (one c.in-One.one x) c.work.new.x.numbers c.work.new.why (end_of c.work.new.why) h l c.requires.steps
    (λ why may. one_stops one total funs c.in-One.one x why may) c.in-Err.ensures.made refl same kept)

pub feed-work-requires-in-Farm : goal.feed-work-requires-in-Farm
feed-work-requires-in-Farm g t c =
    let inv = c.loop-at.invariant in
    let one = g.O.OneToOne.one in
    let total = g.met.O.OneToOne.total in
    let funs = c.args.self.now.funs.now in
    let ss = c.args.self.now.steps.items in
    let at = c.loop-at.at in
    let lt : at < length ss = omega (arith, c.loop-at-test.true, c.len-at-end.ensures, c.args.self.now.steps.ok.0) in
    let here = here_in ss c.loop-at.self.steps.items at c.index_mut.result.now (Farm c.in-Farm.workers) inv.steps c.index_mut.ensures.value c.in-Farm.is in
    record { some = is_at one total funs ss at (Farm c.in-Farm.workers) lt here c.requires.steps }

pub feed-returns-in-Err-work-clause-fed : goal.feed-returns-in-Err-work-clause-fed
feed-returns-in-Err-work-clause-fed g t c =
    let inv = c.loop-at.invariant in
    let one = g.O.OneToOne.one in
    let total = g.met.O.OneToOne.total in
    let funs = c.args.self.now.funs.now in
    let ss = c.args.self.now.steps.items in
    let at = c.loop-at.at in
    let lt : at < length ss = omega (arith, c.loop-at-test.true, c.len-at-end.ensures, c.args.self.now.steps.ok.0) in
    let here = here_in ss c.loop-at.self.steps.items at c.index_mut.result.now (Farm c.in-Farm.workers) inv.steps c.index_mut.ensures.value c.in-Farm.is in
    let s' = Farm c.work-in-Farm.new.self in
    let x = c.loop-at.rec.numbers in
    let new = slice_set c.loop-at.self.steps.items at s' in
    let same = ap (λ xs. slice_set xs at s') inv.steps in
    let h = g.K.Sink.held c.args.out.now in
    let l = g.K.Sink.held c.loop-at.out in
    let kept = subst (λ o. Keeps h (g.K.Sink.held o)) (sym inv.out) (Keeps-refl h) in
    inv.rest new (Err (end_of c.work-in-Farm.new.why)) h l
    (feeds_halts one total funs ss (slice_set ss at s') new at s' (Farm c.in-Farm.workers) lt here refl (x ∷ []) (Unit {0}) (Unit {0}) (AnyOf one c.in-Farm.workers x) c.work-in-Farm.new.x.numbers c.work-in-Farm.new.why (end_of c.work-in-Farm.new.why) h l c.requires.steps
    (λ why may. farm_stops one total funs c.in-Farm.workers x why may) c.in-Err-work.ensures.made refl same kept)

pub feed-step-made-requires-clause-fits : goal.feed-step-made-requires-clause-fits
feed-step-made-requires-clause-fits g t c =
    let inv = c.loop-at.invariant in
    let one = g.O.OneToOne.one in
    let total = g.met.O.OneToOne.total in
    let funs = c.args.self.now.funs.now in
    let ss = c.args.self.now.steps.items in
    let at = c.loop-at.at in
    let lt : at < length ss = omega (arith, c.loop-at-test.true, c.len-at-end.ensures, c.args.self.now.steps.ok.0) in
    let here = here_in ss c.loop-at.self.steps.items at c.index_mut.result.now (Filter c.in-Filter.filter) inv.steps c.index_mut.ensures.value c.in-Filter.is in
    let f = c.in-Filter.filter in
    let was = is_at one total funs ss at (Filter f) lt here c.requires.steps in
    subst (λ (fs : Bor (List Fun)). FilterFits fs.now f.spec.now) (sym inv.funs) was.0

pub feed-step-made-requires-clause-long : goal.feed-step-made-requires-clause-long
feed-step-made-requires-clause-long g t c =
    let inv = c.loop-at.invariant in
    let one = g.O.OneToOne.one in
    let total = g.met.O.OneToOne.total in
    let funs = c.args.self.now.funs.now in
    let ss = c.args.self.now.steps.items in
    let at = c.loop-at.at in
    let lt : at < length ss = omega (arith, c.loop-at-test.true, c.len-at-end.ensures, c.args.self.now.steps.ok.0) in
    let here = here_in ss c.loop-at.self.steps.items at c.index_mut.result.now (Filter c.in-Filter.filter) inv.steps c.index_mut.ensures.value c.in-Filter.is in
    let f = c.in-Filter.filter in
    let was = is_at one total funs ss at (Filter f) lt here c.requires.steps in
    was.1

pub feed-spread-requires : goal.feed-spread-requires
feed-spread-requires g t c κs within =
    let inv = c.loop-at.invariant in
    let one = g.O.OneToOne.one in
    let total = g.met.O.OneToOne.total in
    let funs = c.args.self.now.funs.now in
    let ss = c.args.self.now.steps.items in
    let at = c.loop-at.at in
    let lt : at < length ss = omega (arith, c.loop-at-test.true, c.len-at-end.ensures, c.args.self.now.steps.ok.0) in
    let here = here_in ss c.loop-at.self.steps.items at c.index_mut.result.now (Filter c.in-Filter.filter) inv.steps c.index_mut.ensures.value c.in-Filter.is in
    let f = c.in-Filter.filter in
    let was = is_at one total funs ss at (Filter f) lt here c.requires.steps in
    let f' = c.step-made.new.self in
    let stepped_so = subst (λ (fs : Bor (List Fun)). StepsTo (stepped fs.now f.spec.now f.stage f.state c.as_slice.result.now) f f' c.step-made.result) inv.funs c.step-made.ensures.step in
    let is = filter_is_step one total funs f' f _ c.step-made.result stepped_so c.step-made.ensures.long was in
    let mid = slice_set c.loop-at.self.steps.items at (Filter f') in
    let same = ap (λ xs. slice_set xs at (Filter f')) inv.steps in
    let long = ap length same ∙ long_set ss at (Filter f') in
    let are = subst (AreSteps one funs) (sym same) (are_set one total funs ss at (Filter f') is c.requires.steps) in (
      omega (arith, c.decreases, lt, long, c.loop-at.auto.at),
      (within.0, (within.1, (omega (arith, lt, long), subst (λ (fs : Bor (List Fun)). AreSteps one fs.now mid) (sym inv.funs) are))),
    )

pub feed-returns-in-Filter-clause-fed : goal.feed-returns-in-Filter-clause-fed
feed-returns-in-Filter-clause-fed g t c =
    let inv = c.loop-at.invariant in
    let one = g.O.OneToOne.one in
    let total = g.met.O.OneToOne.total in
    let funs = c.args.self.now.funs.now in
    let ss = c.args.self.now.steps.items in
    let at = c.loop-at.at in
    let lt : at < length ss = omega (arith, c.loop-at-test.true, c.len-at-end.ensures, c.args.self.now.steps.ok.0) in
    let here = here_in ss c.loop-at.self.steps.items at c.index_mut.result.now (Filter c.in-Filter.filter) inv.steps c.index_mut.ensures.value c.in-Filter.is in
    let f = c.in-Filter.filter in
    let was = is_at one total funs ss at (Filter f) lt here c.requires.steps in
    let f' = c.step-made.new.self in
    let stepped_so = subst (λ (fs : Bor (List Fun)). StepsTo (stepped fs.now f.spec.now f.stage f.state c.as_slice.result.now) f f' c.step-made.result) inv.funs c.step-made.ensures.step in
    let is = filter_is_step one total funs f' f _ c.step-made.result stepped_so c.step-made.ensures.long was in
    let mid = slice_set c.loop-at.self.steps.items at (Filter f') in
    let same = ap (λ xs. slice_set xs at (Filter f')) inv.steps in
    let x = c.loop-at.rec.numbers in
    let h = g.K.Sink.held c.args.out.now in
    let l = g.K.Sink.held c.spread.new.out in
    let new = c.spread.new.self.steps.items in
    let steps = subst (λ (xs : Record). StepsTo (stepped funs f.spec.now f.stage f.state xs) f f' c.step-made.result) c.as_slice.ensures stepped_so in
    let spreads = subst (λ o. Spreads one funs mid new (at + 1) c.step-made.result (ended c.spread.result c.spread.new.self.why) (g.K.Sink.held o) l) inv.out
    (subst (λ (fs : Bor (List Fun)). Spreads one fs.now mid new (at + 1) c.step-made.result (ended c.spread.result c.spread.new.self.why) (g.K.Sink.held c.loop-at.out) l) inv.funs c.spread.ensures.spread) in
    inv.rest new (ended c.spread.result c.spread.new.self.why) h l
    (feeds_filter one total funs ss mid new at f' f lt here same x (Unit {0}) c.step-made.result (ended c.spread.result c.spread.new.self.why) h l c.requires.steps is steps spreads)

pub feed-loop-at-preserved : goal.feed-loop-at-preserved
feed-loop-at-preserved g t c =
    let inv = c.loop-at.invariant in
    let one = g.O.OneToOne.one in
    let total = g.met.O.OneToOne.total in
    let funs = c.args.self.now.funs.now in
    let ss = c.args.self.now.steps.items in
    let at = c.loop-at.at in
    let lt : at < length ss = omega (arith, c.loop-at-test.true, c.len-at-end.ensures, c.args.self.now.steps.ok.0) in
    let x = c.loop-at.rec.numbers in
    elim c.match-index_mut.branch [
      | feed-in-One+in-Ok w ↦
          let here = here_in ss c.loop-at.self.steps.items at c.index_mut.result.now (One w.in-One.one) inv.steps c.index_mut.ensures.value w.in-One.is in
          let same = set_same ss at (One w.in-One.one) here lt in
          let y = w.work.new.x.numbers in
          record {
            rest = λ new r h k feeds. inv.rest new r h k
                (feeds_through one total funs ss ss new at (One w.in-One.one) (One w.in-One.one) lt here (sym same) (x ∷ []) (Unit {0}) (y ∷ []) r h k tt (one_goes one total funs w.in-One.one x y w.in-Ok.ensures.made)
                (subst (λ (q : Kept). Feeds one funs ss new (at + 1) (q.numbers ∷ []) r h k) w.rec-is feeds));
            steps = ap (λ (q : Run g.row.O.Denot). q.steps.items) w.self-is ∙ ap (λ xs. slice_set xs at (One w.work.new.self)) inv.steps ∙ ap (λ u. slice_set ss at (One u)) w.work.ensures.same ∙ same;
            funs = ap (λ (q : Run g.row.O.Denot). q.funs) w.self-is ∙ inv.funs;
            out = inv.out;
          }
      | feed-in-Farm+in-Ok-work w ↦
          let here = here_in ss c.loop-at.self.steps.items at c.index_mut.result.now (Farm w.in-Farm.workers) inv.steps c.index_mut.ensures.value w.in-Farm.is in
          let same = set_same ss at (Farm w.in-Farm.workers) here lt in
          let y = w.work-in-Farm.new.x.numbers in
          record {
            rest = λ new r h k feeds. inv.rest new r h k
                (feeds_through one total funs ss ss new at (Farm w.in-Farm.workers) (Farm w.in-Farm.workers) lt here (sym same) (x ∷ []) (Unit {0}) (y ∷ []) r h k (is_at one total funs ss at (Farm w.in-Farm.workers) lt here c.requires.steps) (farm_goes one total funs w.in-Farm.workers x y w.in-Ok-work.ensures.made)
                (subst (λ (q : Kept). Feeds one funs ss new (at + 1) (q.numbers ∷ []) r h k) w.rec-is feeds));
            steps = ap (λ (q : Run g.row.O.Denot). q.steps.items) w.self-is ∙ ap (λ xs. slice_set xs at (Farm w.work-in-Farm.new.self)) inv.steps ∙ ap (λ u. slice_set ss at (Farm u)) w.work-in-Farm.ensures.same ∙ same;
            funs = ap (λ (q : Run g.row.O.Denot). q.funs) w.self-is ∙ inv.funs;
            out = inv.out;
          }
    ]

pub feed-returns-clause-fed : goal.feed-returns-clause-fed
feed-returns-clause-fed g t c =
    let inv = c.loop-at.invariant in
    let one = g.O.OneToOne.one in
    let ss' = c.loop-at.self.steps.items in
    let x = c.loop-at.rec.numbers in
    let new = c.write.new.self.steps.items in
    let last : length ss' ≡ c.loop-at.at = ap length inv.steps ∙ omega (arith, c.loop-at-test.false, c.len-at-end.ensures, c.args.self.now.steps.ok.0, c.requires.within, c.loop-at.auto.at, c.loop-at.auto.at-end) in
    let l = g.K.Sink.held c.write.new.out in
    let fed = subst (λ (xs : Record). Feeds one c.loop-at.self.funs.now ss' new (length ss') (xs ∷ []) (ended c.write.result c.write.new.self.why) (g.K.Sink.held c.loop-at.out) l) c.as_slice-2.ensures c.write.ensures.fed in
    inv.rest new (ended c.write.result c.write.new.self.why) (g.K.Sink.held c.args.out.now) l
    (subst (λ o. Feeds one c.args.self.now.funs.now c.args.self.now.steps.items new c.loop-at.at (x ∷ []) (ended c.write.result c.write.new.self.why) (g.K.Sink.held o) l) inv.out
    (subst (λ ks. Feeds one c.args.self.now.funs.now ks new c.loop-at.at (x ∷ []) (ended c.write.result c.write.new.self.why) (g.K.Sink.held c.loop-at.out) l) inv.steps
    (subst (λ (fs : Bor (List Fun)). Feeds one fs.now ss' new c.loop-at.at (x ∷ []) (ended c.write.result c.write.new.self.why) (g.K.Sink.held c.loop-at.out) l) inv.funs
    (subst (λ (n : ℕ). Feeds one c.loop-at.self.funs.now ss' new n (x ∷ []) (ended c.write.result c.write.new.self.why) (g.K.Sink.held c.loop-at.out) l) last fed))))

pub feed_all-loop-rec-init : goal.feed_all-loop-rec-init
feed_all-loop-rec-init g t c = record {
  fed = ([], refl, feeds_none g.O.OneToOne.one g.met.O.OneToOne.total c.args.self.now.funs.now (Unit {0}) c.args.self.now.steps.items c.args.at tt (g.K.Sink.held c.args.out.now));
  steps = c.requires.steps;
  funs = refl;
  long = refl;
  cause = refl;
}

pub feed_all-feed-requires : goal.feed_all-feed-requires
feed_all-feed-requires g t c κs within =
    let inv = c.loop-rec.invariant in
    let one = g.O.OneToOne.one in (
      omega (arith, c.decreases, inv.long),
      (within.0, (within.1, (omega (arith, c.requires.within, inv.long), subst (λ (fs : Bor (List Fun)). AreSteps one fs.now c.loop-rec.self.steps.items) (sym inv.funs) inv.steps))),
    )

pub feed_all-returns-in_err-feed-clause-fed : goal.feed_all-returns-in_err-feed-clause-fed
feed_all-returns-in_err-feed-clause-fed g t c =
    let inv = c.loop-rec.invariant in
    let one = g.O.OneToOne.one in
    let ss = c.args.self.now.steps.items in
    let k = g.K.Sink.held c.loop-rec.out in
    let l = g.K.Sink.held c.feed.new.out in
    let why = c.in_err-feed.field-0.0 in
    let come : Result (Unit {0}) Stop → Result (Unit {0}) End = λ q. ended q c.feed.new.self.why in
    let out = err_from_is_err_and c.from_residual.result c.from_residual.ensures.1 in
    let fed = subst (λ (fs : Bor (List Fun)). Feeds one fs.now c.loop-rec.self.steps.items c.feed.new.self.steps.items c.args.at (c.in-Some.rec.numbers ∷ []) (ended c.feed.result c.feed.new.self.why) k l) inv.funs c.feed.ensures.fed in
    let split = sym c.into_vec-rec-items.ensures ∙ sym c.into_iter-rec-iterator.ensures.into_iter_gives.0 ∙ inv.fed.1 in
    outs_stopped one g.met.O.OneToOne.total c.args.self.now.funs.now ss c.loop-rec.self.steps.items c.args.at c.args.outs inv.fed.0 c.loop-rec.rec-iterator.rest.items c.next.new.self.rest.items c.in-Some.rec
    (g.K.Sink.held c.args.out.now) k split c.in-Some.ensures.steps.0 inv.fed.2 c.feed.new.self.steps.items l (end_by why c.feed.new.self.why) (ended c.feed.result c.feed.new.self.why) (ended c.from_residual.result c.feed.new.self.why) (ap come c.in_err-feed.was) (ap come (out.1 ∙ ap Err out.2)) fed

pub feed_all-loop-rec-preserved : goal.feed_all-loop-rec-preserved
feed_all-loop-rec-preserved g t c =
    let inv = c.loop-rec.invariant in
    let one = g.O.OneToOne.one in
    let k = g.K.Sink.held c.loop-rec.out in
    let l = g.K.Sink.held c.feed.new.out in
    let fed = subst (λ (fs : Bor (List Fun)). Feeds one fs.now c.loop-rec.self.steps.items c.feed.new.self.steps.items c.args.at (c.in-Some.rec.numbers ∷ []) (ended c.feed.result c.feed.new.self.why) k l) inv.funs c.feed.ensures.fed in
    record {
      fed = outs_more one g.met.O.OneToOne.total c.args.self.now.funs.now c.args.self.now.steps.items c.loop-rec.self.steps.items c.args.at c.into_iter-rec-iterator.result.rest.items inv.fed.0 c.loop-rec.rec-iterator.rest.items
          c.next.new.self.rest.items c.in-Some.rec (g.K.Sink.held c.args.out.now) k inv.fed.1 c.in-Some.ensures.steps.0 inv.fed.2 c.feed.new.self.steps.items l c.in_ok-feed.field-0 (ended c.feed.result c.feed.new.self.why) (ap (λ (q : Result (Unit {0}) Stop). ended q c.feed.new.self.why) c.in_ok-feed.was) fed;
      steps = subst (λ (fs : Bor (List Fun)). AreSteps one fs.now c.feed.new.self.steps.items) inv.funs c.feed.ensures.steps;
      funs = c.feed.ensures.funs ∙ inv.funs;
      long = c.feed.ensures.long ∙ inv.long;
      cause = subst (λ (q : Result (Unit {0}) Stop). FeedCause (ended q c.feed.new.self.why) (g.K.Sink.faults c.loop-rec.out) (g.K.Sink.faults c.feed.new.out)) c.in_ok-feed.was c.feed.ensures.cause ∙ inv.cause;
    }

pub feed_all-returns-clause-fed : goal.feed_all-returns-clause-fed
feed_all-returns-clause-fed g t c =
    let inv = c.loop-rec.invariant in
    let split = sym c.into_vec-rec-items.ensures ∙ sym c.into_iter-rec-iterator.ensures.into_iter_gives.0 ∙ inv.fed.1 in
    outs_all g.O.OneToOne.one g.met.O.OneToOne.total c.args.self.now.funs.now c.args.self.now.steps.items c.loop-rec.self.steps.items c.args.at c.args.outs inv.fed.0 c.loop-rec.rec-iterator.rest.items
    (g.K.Sink.held c.args.out.now) (g.K.Sink.held c.loop-rec.out) split (omega (arith, c.in-None.ensures.steps.0, c.loop-rec.rec-iterator.rest.ok.0)) inv.fed.2

pub spread-feed_all-requires : goal.spread-feed_all-requires
spread-feed_all-requires g t c κs within = (omega (arith, c.decreases), (within.0, (within.1, (c.requires.within, c.requires.steps))))
