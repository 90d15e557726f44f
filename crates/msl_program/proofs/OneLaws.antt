-- Each record has an outcome, without a search only one.
use Rattle.std.proofs.Common.{◌≡◌, ℕ, ◌+◌, List, Ok, Err, sym, ap, ◌∙◌}
use Rattle.std.specs.Prelude.{slice_get}
use Rattle.msl_base.specs.Streams.{Record, Outcome}
use Rattle.msl_lists.specs.Whole.{◌>>=◌}
use Rattle.msl_program.specs.Script.{Script}
use Rattle.msl_program.specs.declared.stage.Stage.{Stage, Row_of-Stage, end_of-Stage, more_of-Stage}
use Rattle.msl_program.specs.declared.stage.Stage.TheVariants.{Atomic, Filter, Data, DivCon, Bnb, Pipe'}
use Rattle.msl_program.specs.Stages.{farm, primitives_of}
use Rattle.msl_program.specs.Data.{data_outcome}
use Rattle.msl_program.specs.Divide.{divcon_outcome}
use Rattle.msl_program.specs.Runs.{AtPlace, One, OneThrough, outcome_at, seq_one, seq_through}
use Rattle.msl_program.specs.RunLaws.{HasNoSearch, HaveNoSearch, HasOutcomes, HasOneOutcome}
use Rattle.msl_program.proofs.SeqLaws.{seq_one_is}

module _ (s : Script) where
  pub has_outcomes : (st : Stage) → HasOutcomes s st
  has_outcomes st h k x = (seq_one s k st x, seq_one_is s k st h x)

  at_place : {A : Type 0} (xs : List A) (i : ℕ) (f : A → Outcome) (r : Outcome) → AtPlace xs i (λ a. r ≡ f a) → r ≡ outcome_at (slice_get xs i) f
  at_place xs i f r h = h.2 ∙ sym (ap (λ o. outcome_at o f) h.1)

  -- behind the outcome of the first
  behind : (m r : Outcome) (go : Record → Outcome) (Through : Record → Type 0) → ((y : Record) → Through y → r ≡ go y) → (elim m as (λ (w : Outcome). Type 0) [ Ok y ↦ Through y | Err f ↦ r ≡ Err f ]) → r ≡ (m >>= go)
  behind (Ok y) r go Through same h = same y h
  behind (Err f) r go Through same h = h

  mutual
    only : (st : Stage) → HasNoSearch st → (k : ℕ) (x : Record) (r : Outcome) → One s k st x r → r ≡ seq_one s k st x
    only (Atomic f) n k x r h = h
    only (Filter i) n k x r h = absurd h
    only (Data i on) n k x r h = at_place s.datas i (λ p. data_outcome s.funs p k x) r h
    only (DivCon i on) n k x r h = at_place s.divcons i (λ p. divcon_outcome s.funs p k x) r h
    only (Bnb i on) n k x r h = absurd n
    only (farm m st) n k x r h = only st n k x r h
    only (Pipe' _ sts) n k x r h = only_through sts n k x r h

    only_through : {n : _} (sts : Row_of-Stage n) → HaveNoSearch sts → (k : ℕ) (x : Record) (r : Outcome) → OneThrough s k sts x r → r ≡ seq_through s k sts x
    only_through end_of-Stage n k x r h = h
    only_through (more_of-Stage st sts) n k x r h =
        behind h.0 r (λ y. seq_through s (k + primitives_of st) sts y) (λ y. OneThrough s (k + primitives_of st) sts y r) (λ y g. only_through sts n.1 (k + primitives_of st) y r g) h.2
        ∙ ap (λ (m : Outcome). m >>= λ y. seq_through s (k + primitives_of st) sts y) (only st n.0 k x h.0 h.1)

  pub has_one_outcome : (st : Stage) → HasOneOutcome s st
  has_one_outcome st n k x r h = only st n k x r h
