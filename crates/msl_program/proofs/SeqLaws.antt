-- The order of `seq` is one of the orders that a script leaves open.
use Rattle.std.proofs.Common.{◌≡◌, ◌<◌, true, false, ℕ, zero, suc, ◌+◌, List, [], ◌∷◌, Ok, Err, length, refl, sym, subst, arith}
use Rattle.std.specs.Prelude.{slice_get}
use Rattle.msl_base.specs.Streams.{Record, Outcome, Stream, Trial, AllTrue, Pointwise, Unordered, pointwise}
use Rattle.msl_base.proofs.StreamLaws.{Is, is_run, in_order}
use Rattle.msl_lists.specs.Whole.{◌>>=◌}
use Rattle.msl_program.specs.Script.{Script}
use Rattle.msl_program.specs.declared.stage.Stage.{Stage, Row_of-Stage, end_of-Stage, more_of-Stage}
use Rattle.msl_program.specs.declared.stage.Stage.TheVariants.{Atomic, Filter, Data, DivCon, Bnb, Pipe'}
use Rattle.msl_program.specs.Stages.{farm, primitives_of}
use Rattle.msl_program.specs.Data.{data_outcome}
use Rattle.msl_program.specs.Divide.{divcon_outcome}
use Rattle.msl_program.specs.Searches.{BestOf, first_best_outcome}
use Rattle.msl_program.specs.Filters.{filtered}
use Rattle.msl_program.specs.Runs.{AtPlace, One, OneThrough, Runs, RunsThrough, outcome_at, stream_at, seq_one, seq_through, seq_run, seq_run_through}
use Rattle.msl_program.specs.Fitting.{Fits, AllFit}
use Rattle.msl_program.proofs.BestOfLaws.{first_best_is_best}

-- ---- more outcomes, more runs

module _ (one more : Record → Outcome → Type 0) (wider : (x : Record) (r : Outcome) → one x r → more x r) where
  all_wider : (ts : List Trial) → AllTrue one ts → AllTrue more ts
  all_wider [] a = tt
  all_wider (t ∷ ts) a = (wider t.0 t.1 a.0, all_wider ts a.1)

  wider_pointwise : (X Y : Stream) → Pointwise one X Y → Pointwise more X Y
  wider_pointwise X Y h =
      record { trials = h.trials; rest = h.rest; all = all_wider h.trials h.all; from = h.from; to = h.to; ends = h.ends }

  wider_unordered : (X Y : Stream) → Unordered one X Y → Unordered more X Y
  wider_unordered X Y h =
      record { trials = h.trials; order = h.order; rest = h.rest; all = all_wider h.trials h.all; reordered = h.reordered; from = h.from; to = h.to; ends = h.ends }

-- a function that gives an outcome of each record gives a run
module _ (one : Record → Outcome → Type 0) (f : Record → Outcome) (is_one : (x : Record) → one x (f x)) where
  is_one_of : (x : Record) (r : Outcome) → Is f x r → one x r
  is_one_of x r h = subst (one x) (sym h) (is_one x)

  in_turn : (X : Stream) → Pointwise one X (pointwise f X)
  in_turn X = wider_pointwise (Is f) one is_one_of X (pointwise f X) (is_run f X)

  by_workers : (X : Stream) → Unordered one X (pointwise f X)
  by_workers X = wider_unordered (Is f) one is_one_of X (pointwise f X) (in_order f X)

-- ---- at a place that is there

module _ {A : Type 0} where
  outcome_there : (xs : List A) (i : ℕ) (f : A → Outcome) (P : A → Outcome → Type 0) → ((a : A) → P a (f a)) → i < length xs → AtPlace xs i (λ a. P a (outcome_at (slice_get xs i) f))
  outcome_there [] i f P p h = absurd (omega (arith, h))
  outcome_there (x ∷ xs) zero f P p h = (x, refl, p x)
  outcome_there (x ∷ xs) (suc i) f P p h = outcome_there xs i f P p (omega (arith, h))

  stream_there : (xs : List A) (i : ℕ) (X : Stream) (f : A → Stream) → i < length xs → AtPlace xs i (λ a. stream_at (slice_get xs i) X f ≡ f a)
  stream_there [] i X f h = absurd (omega (arith, h))
  stream_there (x ∷ xs) zero X f h = (x, refl, refl)
  stream_there (x ∷ xs) (suc i) X f h = stream_there xs i X f (omega (arith, h))

module _ (s : Script) where
  -- ---- one record

  data_one : (k i on : ℕ) (x : Record) → i < length s.datas → One s k (Data i on) x (seq_one s k (Data i on) x)
  data_one k i on x h = outcome_there s.datas i (λ p. data_outcome s.funs p k x) (λ p r. r ≡ data_outcome s.funs p k x) (λ p. refl) h

  divcon_one : (k i on : ℕ) (x : Record) → i < length s.divcons → One s k (DivCon i on) x (seq_one s k (DivCon i on) x)
  divcon_one k i on x h = outcome_there s.divcons i (λ p. divcon_outcome s.funs p k x) (λ p r. r ≡ divcon_outcome s.funs p k x) (λ p. refl) h

  bnb_one : (k i on : ℕ) (x : Record) → i < length s.bnbs → One s k (Bnb i on) x (seq_one s k (Bnb i on) x)
  bnb_one k i on x h =
      outcome_there s.bnbs i (λ p. first_best_outcome s.funs p k x) (λ p r. BestOf s.funs p k x r) (λ p. first_best_is_best s.funs p k x) h

  -- the next stages behind an outcome of the first
  through_more : {n : _} (k : ℕ) (st : Stage) (sts : Row_of-Stage n) (x : Record) (m : Outcome) → One s k st x m
      → ((y : Record) → OneThrough s (k + primitives_of st) sts y (seq_through s (k + primitives_of st) sts y))
      → OneThrough s k (more_of-Stage st sts) x (m >>= λ y. seq_through s (k + primitives_of st) sts y)
  through_more k st sts x (Ok y) h rest = (Ok y, h, rest y)
  through_more k st sts x (Err f) h rest = (Err f, h, refl)

  mutual
    pub seq_one_is : (k : ℕ) (st : Stage) → Fits s true st → (x : Record) → One s k st x (seq_one s k st x)
    seq_one_is k (Atomic f) h x = refl
    seq_one_is k (Filter i) h x = let never : true ≡ false = h.0 in cc
    seq_one_is k (Data i on) h x = data_one k i on x h
    seq_one_is k (DivCon i on) h x = divcon_one k i on x h
    seq_one_is k (Bnb i on) h x = bnb_one k i on x h
    seq_one_is k (farm n st) h x = seq_one_is k st h x
    seq_one_is k (Pipe' _ sts) h x = seq_through_is k sts h x

    seq_through_is : {n : _} (k : ℕ) (sts : Row_of-Stage n) → AllFit s true sts → (x : Record) → OneThrough s k sts x (seq_through s k sts x)
    seq_through_is k end_of-Stage h x = refl
    seq_through_is k (more_of-Stage st sts) h x =
        through_more k st sts x (seq_one s k st x) (seq_one_is k st h.0 x) (seq_through_is (k + primitives_of st) sts h.1)

  -- ---- a stream

  mutual
    pub seq_run_is : (k : ℕ) (st : Stage) → Fits s false st → (X : Stream) → Runs s k st X (seq_run s k st X)
    seq_run_is k (Atomic f) h X = in_turn (One s k (Atomic f)) (seq_one s k (Atomic f)) (λ x. refl) X
    seq_run_is k (Filter i) h X = stream_there s.filters i X (λ p. filtered s.funs p k X) h.1
    seq_run_is k (Data i on) h X = in_turn (One s k (Data i on)) (seq_one s k (Data i on)) (λ x. data_one k i on x h) X
    seq_run_is k (DivCon i on) h X = in_turn (One s k (DivCon i on)) (seq_one s k (DivCon i on)) (λ x. divcon_one k i on x h) X
    seq_run_is k (Bnb i on) h X = in_turn (One s k (Bnb i on)) (seq_one s k (Bnb i on)) (λ x. bnb_one k i on x h) X
    seq_run_is k (farm n st) h X = by_workers (One s k st) (seq_one s k st) (seq_one_is k st h) X
    seq_run_is k (Pipe' _ sts) h X = seq_run_through_is k sts h X

    seq_run_through_is : {n : _} (k : ℕ) (sts : Row_of-Stage n) → AllFit s false sts → (X : Stream) → RunsThrough s k sts X (seq_run_through s k sts X)
    seq_run_through_is k end_of-Stage h X = refl
    seq_run_through_is k (more_of-Stage st sts) h X =
        (seq_run s k st X, seq_run_is k st h.0 X, seq_run_through_is (k + primitives_of st) sts h.1 (seq_run s k st X))
