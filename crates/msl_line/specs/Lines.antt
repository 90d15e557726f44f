-- The line of steps of a stage, whose first number is k.
use Rattle.std.specs.Prelude.{◌≡◌, ℕ, ◌+◌, List, [], ◌∷◌, ◌++◌, Option, Some, None, slice_get, replicate}
use Rattle.msl_base.specs.Streams.{Record, Outcome, Stream}
use Rattle.msl_fun.specs.declared.funs.Fun.{Fun}
use Rattle.msl_program.specs.Script.{Script}
use Rattle.msl_program.specs.Promises.{FilterFits}
use Rattle.msl_program.specs.declared.script.FilterSpec.{FilterSpec}
use Rattle.msl_program.specs.declared.script.BnbSpec.{BnbSpec}
use Rattle.msl_program.specs.declared.stage.Stage.{Stage, Row_of-Stage, end_of-Stage, more_of-Stage}
use Rattle.msl_program.specs.declared.stage.Stage.TheVariants.{Atomic, Filter, Data, DivCon, Bnb, Pipe'}
use Rattle.msl_program.specs.Stages.{farm, primitives_of}
use Rattle.msl_program.specs.Runs.{AtPlace, One, Runs, RunsMain, seq_one, seq_run, SeqRuns}
use Rattle.msl_stage.specs.declared.filter.FilterState.{FilterState}
use Rattle.msl_stage.specs.declared.step.Step.{Step}
use Rattle.msl_stage.specs.declared.step.Step.TheVariants as step
use Rattle.msl_line.specs.Duties.{Duty, function, program, division, search, first_search}
use Rattle.msl_line.specs.declared.how.How.{How}
use Rattle.msl_line.specs.declared.how.How.TheVariants.{InTurn, Beside}

-- the duty of a stage that names this by its place; a script keeps that it is there
abbrev pub duty_at : {A : Type 0} → (A → Duty) → Option A → List Duty
duty_at duty (Some a) = duty a ∷ []
duty_at duty None = []

-- the first where all is done in turn, else the second
abbrev pub in_turn_else : {R A : Type 0} → How R → A → A → A
in_turn_else InTurn a b = a
in_turn_else (Beside rt) a b = b

-- in turn a search gives the answer of `seq`
abbrev pub search_duty : {R : Type 0} → How R → ℕ → List Fun → BnbSpec → Duty
search_duty how k funs b = in_turn_else how (first_search k funs b) (search k funs b)

module _ {R : Type 0} (how : How R) (s : Script) where
  abbrev mutual
    -- what a worker does that is a whole stage; no filter is in a farm
    pub duties_of : ℕ → Stage → List Duty
    duties_of k (Atomic f) = function k s.funs f ∷ []
    duties_of k (Filter i) = []
    duties_of k (Data i on) = duty_at (program k s.funs) (slice_get s.datas i)
    duties_of k (DivCon i on) = duty_at (division k s.funs) (slice_get s.divcons i)
    duties_of k (Bnb i on) = duty_at (search_duty how k s.funs) (slice_get s.bnbs i)
    duties_of k (farm n st) = duties_of k st
    duties_of k (Pipe' _ sts) = duties_in k sts

    pub duties_in : {n : _} → ℕ → Row_of-Stage n → List Duty
    duties_in k end_of-Stage = []
    duties_in k (more_of-Stage st sts) = duties_of k st ++ duties_in (k + primitives_of st) sts

-- a farm of n workers with these duties
abbrev pub farm_step : {R : Type 0} → How R → ℕ → List Duty → Step (List Duty)
farm_step InTurn n ds = step.One ds
farm_step (Beside rt) n ds = step.Farm (replicate n ds)

-- a filter that fits the functions, at its first state
abbrev pub IsFilterStep : List Fun → FilterSpec → ℕ → List (Step (List Duty)) → Type 0
IsFilterStep funs p k ss = (f : FilterState) × (ss ≡ step.Filter f ∷ []) × (f.spec.now ≡ p) × (f.stage ≡ k) × (f.state ≡ p.state) × FilterFits funs p

module _ {R : Type 0} (how : How R) (s : Script) where
  abbrev mutual
    -- a step for each stage that is no pipe
    pub IsLineOf : ℕ → Stage → List (Step (List Duty)) → Type 0
    IsLineOf k (Atomic f) ss = ss ≡ step.One (duties_of how s k (Atomic f)) ∷ []
    IsLineOf k (Filter i) ss = AtPlace s.filters i (λ p. IsFilterStep s.funs p k ss)
    IsLineOf k (Data i on) ss = ss ≡ step.One (duties_of how s k (Data i on)) ∷ []
    IsLineOf k (DivCon i on) ss = ss ≡ step.One (duties_of how s k (DivCon i on)) ∷ []
    IsLineOf k (Bnb i on) ss = ss ≡ step.One (duties_of how s k (Bnb i on)) ∷ []
    IsLineOf k (farm n st) ss = ss ≡ farm_step how n (duties_of how s k st) ∷ []
    IsLineOf k (Pipe' _ sts) ss = IsLineThrough k sts ss

    pub IsLineThrough : {n : _} → ℕ → Row_of-Stage n → List (Step (List Duty)) → Type 0
    IsLineThrough k end_of-Stage ss = ss ≡ []
    IsLineThrough k (more_of-Stage st sts) ss =
        (front : List (Step (List Duty))) × (back : List (Step (List Duty))) × (ss ≡ front ++ back) × IsLineOf k st front × IsLineThrough (k + primitives_of st) sts back

-- the first where all is done in turn, else the second
abbrev pub InTurnElse : {R : Type 0} → How R → Type 0 → Type 0 → Type 0
InTurnElse InTurn P Q = P
InTurnElse (Beside rt) P Q = Q

-- what a line has to make of a stream: what `seq` makes of it, or any stream that the script leaves open
abbrev pub StageMeans : {R : Type 0} → How R → Script → ℕ → Stage → Stream → Stream → Type 0
StageMeans how s k st X Y = InTurnElse how (Y ≡ seq_run s k st X) (Runs s k st X Y)

-- the same of one record
abbrev pub OneMeans : {R : Type 0} → How R → Script → ℕ → Stage → Record → Outcome → Type 0
OneMeans how s k st x r = InTurnElse how (r ≡ seq_one s k st x) (One s k st x r)

abbrev pub Means : {R : Type 0} → How R → Script → Stream → Stream → Type 0
Means how s X Y = InTurnElse how (SeqRuns s X Y) (RunsMain s X Y)

-- ---- what is appended

abbrev pub PutsLine : {R : Type 0} → How R → Script → ℕ → Stage → List (Step (List Duty)) → List (Step (List Duty)) → Type 0
PutsLine how s k st old new = (more : List (Step (List Duty))) × (new ≡ old ++ more) × IsLineOf how s k st more
