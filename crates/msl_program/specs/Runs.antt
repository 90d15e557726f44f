-- What a script makes of a stream.
--     One s k st x r          r is what the stage st, whose first number is k, may make of the record x
--     Runs s k st X Y         Y is a stream that the stage may make of the stream X
--     seq_one, seq_run        the same with every choice fixed: results in the order of the input, the first best solution
use Rattle.std.specs.Prelude.{◌≡◌, ℕ, ◌+◌, List, [], slice_get, Option, Some, None, Ok, Err}
use Rattle.msl_base.specs.Streams.{Record, Outcome, Stream, Pointwise, Unordered, pointwise}
use Rattle.msl_lists.specs.Whole.{◌>>=◌}
use Rattle.msl_program.specs.Script.{Script}
use Rattle.msl_program.specs.declared.stage.Stage.{Stage, Row_of-Stage, end_of-Stage, more_of-Stage}
use Rattle.msl_program.specs.declared.stage.Stage.TheVariants.{Atomic, Filter, Data, DivCon, Bnb, Pipe'}
use Rattle.msl_program.specs.Stages.{farm, primitives_of}
use Rattle.msl_program.specs.Calls.{atomic_outcome}
use Rattle.msl_program.specs.Data.{data_outcome}
use Rattle.msl_program.specs.Divide.{divcon_outcome}
use Rattle.msl_program.specs.Searches.{BestOf, first_best_outcome}
use Rattle.msl_program.specs.Filters.{filtered}

-- at the place of a list where there is one
abbrev pub AtPlace : {A : Type 0} → List A → ℕ → (A → Type 0) → Type 0
AtPlace {A} xs i P = (a : A) × (slice_get xs i ≡ Some a) × P a

module _ (s : Script) where
  abbrev mutual
    pub One : ℕ → Stage → Record → Outcome → Type 0
    One k (Atomic f) x r = r ≡ atomic_outcome s.funs k f x
    One k (Filter i) x r = ⊥
    One k (Data i on) x r = AtPlace s.datas i (λ p. r ≡ data_outcome s.funs p k x)
    One k (DivCon i on) x r = AtPlace s.divcons i (λ p. r ≡ divcon_outcome s.funs p k x)
    One k (Bnb i on) x r = AtPlace s.bnbs i (λ p. BestOf s.funs p k x r)
    One k (farm n st) x r = One k st x r
    One k (Pipe' _ sts) x r = OneThrough k sts x r

    -- through the stages one after the other, up to the first fault
    pub OneThrough : {n : _} → ℕ → Row_of-Stage n → Record → Outcome → Type 0
    OneThrough k end_of-Stage x r = r ≡ Ok x
    OneThrough k (more_of-Stage st sts) x r = (m : Outcome) × One k st x m × (elim m [ Ok y ↦ OneThrough (k + primitives_of st) sts y r | Err f ↦ r ≡ Err f ])

  abbrev mutual
    pub Runs : ℕ → Stage → Stream → Stream → Type 0
    Runs k (Filter i) X Y = AtPlace s.filters i (λ p. Y ≡ filtered s.funs p k X)
    Runs k (farm n st) X Y = Unordered (One k st) X Y
    Runs k (Pipe' _ sts) X Y = RunsThrough k sts X Y
    Runs k (Atomic f) X Y = Pointwise (One k (Atomic f)) X Y
    Runs k (Data i on) X Y = Pointwise (One k (Data i on)) X Y
    Runs k (DivCon i on) X Y = Pointwise (One k (DivCon i on)) X Y
    Runs k (Bnb i on) X Y = Pointwise (One k (Bnb i on)) X Y

    -- the output of each stage is the input of the next
    pub RunsThrough : {n : _} → ℕ → Row_of-Stage n → Stream → Stream → Type 0
    RunsThrough k end_of-Stage X Y = Y ≡ X
    RunsThrough k (more_of-Stage st sts) X Y = (Z : Stream) × Runs k st X Z × RunsThrough (k + primitives_of st) sts Z Y

-- the meaning of a script
abbrev pub RunsMain : Script → Stream → Stream → Type 0
RunsMain s = Runs s 1 s.main

-- ---- the same with every choice fixed

-- the outcome at a place of a list; a script keeps that it is there
abbrev pub outcome_at : {A : Type 0} → Option A → (A → Outcome) → Outcome
outcome_at (Some a) f = f a
outcome_at None f = Ok []

abbrev pub stream_at : {A : Type 0} → Option A → Stream → (A → Stream) → Stream
stream_at (Some a) X f = f a
stream_at None X f = X

module _ (s : Script) where
  abbrev mutual
    pub seq_one : ℕ → Stage → Record → Outcome
    seq_one k (Atomic f) x = atomic_outcome s.funs k f x
    seq_one k (Filter i) x = Ok x
    seq_one k (Data i on) x = outcome_at (slice_get s.datas i) (λ p. data_outcome s.funs p k x)
    seq_one k (DivCon i on) x = outcome_at (slice_get s.divcons i) (λ p. divcon_outcome s.funs p k x)
    seq_one k (Bnb i on) x = outcome_at (slice_get s.bnbs i) (λ p. first_best_outcome s.funs p k x)
    seq_one k (farm n st) x = seq_one k st x
    seq_one k (Pipe' _ sts) x = seq_through k sts x

    pub seq_through : {n : _} → ℕ → Row_of-Stage n → Record → Outcome
    seq_through k end_of-Stage x = Ok x
    seq_through k (more_of-Stage st sts) x = seq_one k st x >>= λ y. seq_through (k + primitives_of st) sts y

  abbrev mutual
    pub seq_run : ℕ → Stage → Stream → Stream
    seq_run k (Filter i) X = stream_at (slice_get s.filters i) X (λ p. filtered s.funs p k X)
    seq_run k (Pipe' _ sts) X = seq_run_through k sts X
    seq_run k (Atomic f) X = pointwise (seq_one k (Atomic f)) X
    seq_run k (Data i on) X = pointwise (seq_one k (Data i on)) X
    seq_run k (DivCon i on) X = pointwise (seq_one k (DivCon i on)) X
    seq_run k (Bnb i on) X = pointwise (seq_one k (Bnb i on)) X
    seq_run k (farm n st) X = pointwise (seq_one k st) X

    pub seq_run_through : {n : _} → ℕ → Row_of-Stage n → Stream → Stream
    seq_run_through k end_of-Stage X = X
    seq_run_through k (more_of-Stage st sts) X = seq_run_through (k + primitives_of st) sts (seq_run k st X)

-- what `seq` makes of a stream
abbrev pub SeqRuns : Script → Stream → Stream → Type 0
SeqRuns s X Y = Y ≡ seq_run s 1 s.main X
