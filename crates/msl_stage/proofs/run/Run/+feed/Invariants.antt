use Rattle.std.proofs.Common.{◌≡◌, ◌+◌, ◌-◌, ◌*◌, ◌++◌, ℕ, List, [], ◌∷◌, length, Option, Result, Ok}
use Rattle.msl_base.specs.Records.{Kept}
use Rattle.msl_base.specs.declared.fault.End.{End}
use Rattle.msl_stage.specs.declared.step.Step.{Step}
use Rattle.msl_stage.specs.Answers.{records_of}
use Rattle.msl_stage.specs.Feeding.{Feeds}
use Rattle.msl_stage.specs.Lines.{AreSteps}
use Rattle.msl_stage.proofs.run.Run.+feed.Given as goal

abbrev pub decreases-feed : goal.decreases-feed
decreases-feed g l = 3 * (length l.self.now.steps.items - l.from)

abbrev pub decreases-feed_all : goal.decreases-feed_all
decreases-feed_all g l = 3 * (length l.self.now.steps.items - l.at) + 1

abbrev pub decreases-spread : goal.decreases-spread
decreases-spread g l = 3 * (length l.self.now.steps.items - l.at) + 2

-- what comes of the record in the steps that are left comes of that at the beginning in all; no step has changed
abbrev pub invariant-feed-loop-at : goal.invariant-feed-loop-at
invariant-feed-loop-at g l = record {
  rest : (new : List (Step g.row.O.Denot)) (r : Result (Unit {0}) End) (h k : Option (List ℕ)) → Feeds g.O.OneToOne.one l.initial.self.funs.now l.initial.self.steps.items new l.at (l.rec.numbers ∷ []) r h k
      → Feeds g.O.OneToOne.one l.initial.self.funs.now l.initial.self.steps.items new l.from (l.initial.rec.numbers ∷ []) r h k;
  steps : l.self.steps.items ≡ l.initial.self.steps.items;
  funs : l.self.funs ≡ l.initial.self.funs;
  out : l.out ≡ l.initial.out;
}

-- those so far went through
abbrev pub invariant-feed_all-loop-rec : goal.invariant-feed_all-loop-rec
invariant-feed_all-loop-rec g l = record {
  fed : (taken : List Kept) × (l.initial.rec-iterator.rest.items ≡ taken ++ l.rec-iterator.rest.items)
      × Feeds g.O.OneToOne.one l.initial.self.funs.now l.initial.self.steps.items l.self.steps.items l.at (records_of taken) (Ok (tt {0})) (g.K.Sink.held l.initial.out) (g.K.Sink.held l.out);
  steps : AreSteps g.O.OneToOne.one l.initial.self.funs.now l.self.steps.items;
  funs : l.self.funs ≡ l.initial.self.funs;
  long : length l.self.steps.items ≡ length l.initial.self.steps.items;
  cause : g.K.Sink.faults l.out ≡ g.K.Sink.faults l.initial.out;
}
