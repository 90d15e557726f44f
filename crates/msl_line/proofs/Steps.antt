-- Lines one behind the other, and steps that can be run.
use Rattle.std.proofs.Common.{◌≡◌, List, [], ◌∷◌, ◌++◌, refl, sym, subst}
use Rattle.msl_base.specs.Streams.{Record, Outcome, Stream}
use Rattle.msl_fun.specs.declared.funs.Fun.{Fun}
use Rattle.msl_stage.specs.declared.step.Step.{Step}
use Rattle.msl_stage.specs.Lines.{StepRuns, LineRuns, AreSteps}

module _ {O : Type 0} (one : O → Record → Outcome → Type 0) (funs : List Fun) where
  -- what comes from the first steps goes into the others
  pub line_append : (ss ts : List (Step O)) (X Y : Stream) → LineRuns one funs (ss ++ ts) X Y → (Z : Stream) × LineRuns one funs ss X Z × LineRuns one funs ts Z Y
  line_append [] ts X Y l = (X, refl, l)
  line_append (s ∷ ss) ts X Y l = let r = line_append ss ts l.0 Y l.2 in (r.0, (l.0, l.1, r.1), r.2)

  pub line_step : (ss : List (Step O)) (t : Step O) (X Y : Stream) → ss ≡ t ∷ [] → LineRuns one funs ss X Y → StepRuns one funs t X Y
  line_step ss t X Y is l =
      let m : LineRuns one funs (t ∷ []) X Y = subst (λ (r : List (Step O)). LineRuns one funs r X Y) is l in
      subst (λ (Z : Stream). StepRuns one funs t X Z) (sym m.2) m.1

  pub steps_append : (ss ts : List (Step O)) → AreSteps one funs ss → AreSteps one funs ts → AreSteps one funs (ss ++ ts)
  steps_append [] ts a b = b
  steps_append (s ∷ ss) ts a b = (a.0, steps_append ss ts a.1 b)
