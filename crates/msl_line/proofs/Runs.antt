-- What a line of a stage makes of a stream is what the stage makes of it, and its steps can be run.
use denote.Ref.{Bor}
use Rattle.std.proofs.Common.{◌≡◌, ◌≤◌, true, false, ℕ, ◌+◌, List, [], ◌∷◌, length, Option, Some, sym, ap, ◌∙◌, subst, arith}
use Rattle.std.specs.Prelude.{slice_get, replicate}
use Rattle.std.proofs.lemmas.List.{length-replicate}
use Rattle.msl_base.specs.Streams.{Stream, Pointwise, Unordered, pointwise}
use Rattle.msl_fun.specs.declared.funs.Fun.{Fun}
use Rattle.msl_program.specs.Script.{Script}
use Rattle.msl_program.specs.declared.script.FilterSpec.{FilterSpec}
use Rattle.msl_program.specs.declared.stage.Stage.{Stage, Row_of-Stage, end_of-Stage, more_of-Stage}
use Rattle.msl_program.specs.declared.stage.Stage.TheVariants.{Atomic, Filter, Data, DivCon, Bnb, Pipe'}
use Rattle.msl_program.specs.Stages.{farm, primitives_of}
use Rattle.msl_program.specs.Filters.{filtered, filtered_from}
use Rattle.msl_program.specs.Runs.{One, RunsThrough, stream_at, seq_one, seq_run_through}
use Rattle.msl_program.specs.Promises.{FilterFits}
use Rattle.msl_program.specs.ScriptPromise.{IsSized, AreSized}
use Rattle.msl_program.specs.Fitting.{Fits, AllFit}
use Rattle.msl_stage.specs.declared.step.Step.{Step}
use Rattle.msl_stage.specs.declared.step.Step.TheVariants as step
use Rattle.msl_stage.specs.Lines.{AnyOf, LineRuns, IsStep, AreSteps}
use Rattle.msl_line.specs.Duties.{Duty, Does}
use Rattle.msl_line.specs.Lines.{duties_of, farm_step, IsFilterStep, IsLineOf, IsLineThrough, InTurnElse, StageMeans}
use Rattle.msl_line.specs.declared.how.How.{How}
use Rattle.msl_line.specs.declared.how.How.TheVariants.{InTurn, Beside}
use Rattle.msl_line.proofs.Outcomes.{does_one, does_seq}
use Rattle.msl_line.proofs.Streams.{wider_pointwise, wider_unordered, only_stream, any_alike}
use Rattle.msl_line.proofs.Steps.{line_append, line_step, steps_append}

abbrev pub Steps : Type 0
Steps = List (Step (List Duty))

either : {R : Type 0} {P Q : Type 0} (how : How R) → P → Q → InTurnElse how P Q
either InTurn p q = p
either (Beside rt) p q = q

filter_runs : (funs : List Fun) (p : FilterSpec) (k : ℕ) (ss : Steps) (X Y : Stream) → IsFilterStep funs p k ss → LineRuns Does funs ss X Y → Y ≡ filtered funs p k X
filter_runs funs p k ss X Y is l =
    line_step Does funs ss (step.Filter is.0) X Y is.1 l
    ∙ (λ i. filtered_from funs (is.2 i) (is.3 i) (is.4 i) X.records X.ending)

module _ (s : Script) where
  module _ {R : Type 0} (rt : Bor R) where
    one_runs : (k : ℕ) (st : Stage) (ss : Steps) (X Y : Stream) → Fits s true st → ss ≡ step.One (duties_of (Beside rt) s k st) ∷ [] → LineRuns Does s.funs ss X Y → Pointwise (One s k st) X Y
    one_runs k st ss X Y h is l =
        wider_pointwise (Does (duties_of (Beside rt) s k st)) (One s k st) (does_one s rt k st h) X Y (line_step Does s.funs ss (step.One (duties_of (Beside rt) s k st)) X Y is l)

    farm_runs : (k n : ℕ) (st : Stage) (ss : Steps) (X Y : Stream) → Fits s true st → ss ≡ step.Farm (replicate n (duties_of (Beside rt) s k st)) ∷ [] → LineRuns Does s.funs ss X Y
        → Unordered (One s k st) X Y
    farm_runs k n st ss X Y h is l =
        let ds = duties_of (Beside rt) s k st in
        wider_unordered (AnyOf Does (replicate n ds)) (One s k st) (λ x r a. does_one s rt k st h x r (any_alike Does ds n x r a)) X Y
        (line_step Does s.funs ss (step.Farm (replicate n ds)) X Y is l)

  one_seq : (R : Type 0) (k : ℕ) (st : Stage) (ss : Steps) (X Y : Stream) → Fits s true st → ss ≡ step.One (duties_of {R = R} InTurn s k st) ∷ [] → LineRuns Does s.funs ss X Y
      → Y ≡ pointwise (seq_one s k st) X
  one_seq R k st ss X Y h is l =
      only_stream (Does (duties_of {R = R} InTurn s k st)) (seq_one s k st) (does_seq s R k st h) X Y (line_step Does s.funs ss (step.One (duties_of {R = R} InTurn s k st)) X Y is l)

  -- ---- the same by who works on a record

  abbrev pub RowMeans : {R : Type 0} {n : _} → How R → ℕ → Row_of-Stage n → Stream → Stream → Type 0
  RowMeans how k sts X Y = InTurnElse how (Y ≡ seq_run_through s k sts X) (RunsThrough s k sts X Y)

  none_means : {R : Type 0} (how : How R) (k : ℕ) (X Y : Stream) → Y ≡ X → RowMeans how k end_of-Stage X Y
  none_means how k X Y h = either how h h

  more_means : {R : Type 0} {n : _} (how : How R) (k : ℕ) (st : Stage) (sts : Row_of-Stage n) (X Z Y : Stream)
      → StageMeans how s k st X Z → RowMeans how (k + primitives_of st) sts Z Y → RowMeans how k (more_of-Stage st sts) X Y
  more_means InTurn k st sts X Z Y h more = more ∙ ap (seq_run_through s (k + primitives_of st) sts) h
  more_means (Beside rt) k st sts X Z Y h more = (Z, h, more)

  filter_means : {R : Type 0} (how : How R) (k i : ℕ) (p : FilterSpec) (X Y : Stream) → slice_get s.filters i ≡ Some p → Y ≡ filtered s.funs p k X → StageMeans how s k (Filter i) X Y
  filter_means how k i p X Y at h = either how (h ∙ sym (ap (λ (o : Option FilterSpec). stream_at o X (λ q. filtered s.funs q k X)) at)) (p, at, h)

  farm_means : {R : Type 0} (how : How R) (k n : ℕ) (st : Stage) (ss : Steps) (X Y : Stream) → Fits s true st
      → ss ≡ farm_step how n (duties_of how s k st) ∷ [] → LineRuns Does s.funs ss X Y → StageMeans how s k (farm n st) X Y
  farm_means {R = R} InTurn k n st ss X Y h is l = one_seq R k st ss X Y h is l
  farm_means (Beside rt) k n st ss X Y h is l = farm_runs rt k n st ss X Y h is l

  -- a stage that works record by record, by one worker
  alone_means : {R : Type 0} (how : How R) (k : ℕ) (st : Stage) (ss : Steps) (X Y : Stream) → Fits s true st → ss ≡ step.One (duties_of how s k st) ∷ [] → LineRuns Does s.funs ss X Y
      → InTurnElse how (Y ≡ pointwise (seq_one s k st) X) (Pointwise (One s k st) X Y)
  alone_means {R = R} InTurn k st ss X Y h is l = one_seq R k st ss X Y h is l
  alone_means (Beside rt) k st ss X Y h is l = one_runs rt k st ss X Y h is l

  mutual
    pub line_means : {R : Type 0} (how : How R) (k : ℕ) (st : Stage) (ss : Steps) (X Y : Stream) → Fits s false st → IsLineOf how s k st ss → LineRuns Does s.funs ss X Y → StageMeans how s k st X Y
    line_means how k (Atomic f) ss X Y h is l = alone_means how k (Atomic f) ss X Y h is l
    line_means how k (Filter i) ss X Y h is l = filter_means how k i is.0 X Y is.1 (filter_runs s.funs is.0 k ss X Y is.2 l)
    line_means how k (Data i on) ss X Y h is l = alone_means how k (Data i on) ss X Y h is l
    line_means how k (DivCon i on) ss X Y h is l = alone_means how k (DivCon i on) ss X Y h is l
    line_means how k (Bnb i on) ss X Y h is l = alone_means how k (Bnb i on) ss X Y h is l
    line_means how k (farm n st) ss X Y h is l = farm_means how k n st ss X Y h is l
    line_means how k (Pipe' stages sts) ss X Y h is l = through_means how k sts ss X Y h is l

    through_means : {R : Type 0} {n : _} (how : How R) (k : ℕ) (sts : Row_of-Stage n) (ss : Steps) (X Y : Stream) → AllFit s false sts
        → IsLineThrough how s k sts ss → LineRuns Does s.funs ss X Y → RowMeans how k sts X Y
    through_means how k end_of-Stage ss X Y h is l = none_means how k X Y (subst (λ (r : Steps). LineRuns Does s.funs r X Y) is l)
    through_means how k (more_of-Stage st sts) ss X Y h is l =
        let p = line_append Does s.funs is.0 is.1 X Y (subst (λ (r : Steps). LineRuns Does s.funs r X Y) is.2 l) in
        more_means how k st sts X p.0 Y (line_means how k st is.0 X p.0 h.0 is.3 p.1) (through_means how (k + primitives_of st) sts is.1 p.0 Y h.1 is.4 p.2)

  -- ---- steps that can be run

  filter_step : (p : FilterSpec) (k : ℕ) (ss : Steps) → IsFilterStep s.funs p k ss → AreSteps Does s.funs ss
  filter_step p k ss is =
      subst (AreSteps Does s.funs) (sym is.1)
      ((subst (FilterFits s.funs) (sym is.2) is.5, ap length is.4 ∙ ap (λ (q : FilterSpec). length q.state) (sym is.2)), tt)

  farm_can : {R : Type 0} (how : How R) (n : ℕ) (ds : List Duty) → 1 ≤ n → IsStep Does s.funs (farm_step how n ds)
  farm_can InTurn n ds h = tt
  farm_can (Beside rt) n ds h = omega (arith, h, length-replicate n ds)

  mutual
    pub line_can : {R : Type 0} (how : How R) (k : ℕ) (st : Stage) (ss : Steps) → IsSized st → IsLineOf how s k st ss → AreSteps Does s.funs ss
    line_can how k (Atomic f) ss h is = subst (AreSteps Does s.funs) (sym is) (tt, tt)
    line_can how k (Filter i) ss h is = filter_step is.0 k ss is.2
    line_can how k (Data i on) ss h is = subst (AreSteps Does s.funs) (sym is) (tt, tt)
    line_can how k (DivCon i on) ss h is = subst (AreSteps Does s.funs) (sym is) (tt, tt)
    line_can how k (Bnb i on) ss h is = subst (AreSteps Does s.funs) (sym is) (tt, tt)
    line_can how k (farm n st) ss h is = subst (AreSteps Does s.funs) (sym is) (farm_can how n (duties_of how s k st) h.0.0, tt)
    line_can how k (Pipe' stages sts) ss h is = through_can how k sts ss h.1 is

    through_can : {R : Type 0} {n : _} (how : How R) (k : ℕ) (sts : Row_of-Stage n) (ss : Steps) → AreSized sts → IsLineThrough how s k sts ss → AreSteps Does s.funs ss
    through_can how k end_of-Stage ss h is = subst (AreSteps Does s.funs) (sym is) tt
    through_can how k (more_of-Stage st sts) ss h is =
        subst (AreSteps Does s.funs) (sym is.2)
        (steps_append Does s.funs is.0 is.1 (line_can how k st is.0 h.0 is.3) (through_can how (k + primitives_of st) sts is.1 h.1 is.4))
