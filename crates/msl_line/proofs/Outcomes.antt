-- What a worker that is a whole stage makes of a record is what the stage makes of it.
use denote.Ref.{Bor}
use Rattle.std.proofs.Common.{◌≡◌, ◌<◌, true, false, ℕ, ◌+◌, List, [], ◌∷◌, ◌++◌, length, Option, Some, Ok, Err, refl, sym, ap, ◌∙◌, subst, arith}
use Rattle.std.specs.Prelude.{slice_get, get_or}
use Rattle.std.proofs.lemmas.Option.{slice_get-get_or}
use Rattle.msl_base.specs.Streams.{Record, Outcome}
use Rattle.msl_program.specs.Script.{Script}
use Rattle.msl_program.specs.declared.stage.Stage.{Stage, Row_of-Stage, end_of-Stage, more_of-Stage}
use Rattle.msl_program.specs.declared.stage.Stage.TheVariants.{Atomic, Filter, Data, DivCon, Bnb, Pipe'}
use Rattle.msl_program.specs.Stages.{farm, primitives_of}
use Rattle.msl_program.specs.Data.{data_outcome}
use Rattle.msl_program.specs.Divide.{divcon_outcome}
use Rattle.msl_program.specs.Searches.{BestOf, first_best_outcome}
use Rattle.msl_program.specs.Runs.{One, OneThrough, outcome_at, seq_one, seq_through}
use Rattle.msl_program.specs.Fitting.{Fits, AllFit}
use Rattle.msl_lists.specs.Whole.{◌>>=◌}
use Rattle.msl_line.specs.declared.how.How.{How}
use Rattle.msl_line.specs.declared.how.How.TheVariants.{InTurn, Beside}
use Rattle.msl_line.specs.Duties.{Duty, program, division, search, first_search, DutyGives, Does}
use Rattle.msl_line.specs.Lines.{duty_at, duties_of, duties_in, OneMeans}

-- ---- duties

-- what comes behind an outcome
abbrev pub Then : Outcome → (Record → Type 0) → Outcome → Type 0
Then m P r = elim m [ Ok y ↦ P y | Err f ↦ r ≡ Err f ]

pub then_more : (m r : Outcome) (P Q : Record → Type 0) → ((y : Record) → P y → Q y) → Then m P r → Then m Q r
then_more (Ok y) r P Q more h = more y h
then_more (Err f) r P Q more h = h

-- nothing comes behind it
pub then_none : (m r : Outcome) → Then m (λ y. r ≡ Ok y) r → r ≡ m
then_none (Ok y) r h = h
then_none (Err f) r h = h

-- the outcome of the first duties, and that of the others behind it
abbrev pub Split : List Duty → List Duty → Record → Outcome → Type 0
Split ds es x r = (m : Outcome) × Does ds x m × Then m (λ y. Does es y r) r

split_more : (d : Duty) (ds es : List Duty) (x : Record) (r m : Outcome) → DutyGives d x m → ((y : Record) → Does (ds ++ es) y r → Split ds es y r)
    → Then m (λ y. Does (ds ++ es) y r) r → Split (d ∷ ds) es x r
split_more d ds es x r (Ok y) g more h = let i = more y h in (i.0, (Ok y, g, i.1), i.2)
split_more d ds es x r (Err f) g more h = (Err f, (Err f, g, refl), h)

pub split : (ds es : List Duty) (x : Record) (r : Outcome) → Does (ds ++ es) x r → Split ds es x r
split [] es x r h = (Ok x, refl, h)
split (d ∷ ds) es x r h = split_more d ds es x r h.0 h.1 (λ y g. split ds es y r g) h.2

-- ---- stages

pub there : {A : Type 0} (xs : List A) (i : ℕ) → i < length xs → (a : A) × (slice_get xs i ≡ Some a)
there [] i h = absurd (omega (arith, h))
there (x ∷ xs) i h = (get_or (x ∷ xs) i x, slice_get-get_or (x ∷ xs) i x h)

-- one duty alone
alone : (d : Duty) (x : Record) (r : Outcome) (P : Outcome → Type 0) → ((m : Outcome) → DutyGives d x m → P m) → Does (d ∷ []) x r → P r
alone d x r P gives h = subst P (sym (then_none h.0 r h.2)) (gives h.0 h.1)

-- the duty at a place where there is something
alone_at : {A : Type 0} (duty : A → Duty) (a : A) (o : Option A) (x : Record) (r : Outcome) (P : Outcome → Type 0) → o ≡ Some a → ((m : Outcome) → DutyGives (duty a) x m → P m)
    → Does (duty_at duty o) x r → P r
alone_at {A = A} duty a o x r P is gives d = alone (duty a) x r P gives (subst (λ (q : Option A). Does (duty_at duty q) x r) is d)

module _ (s : Script) where
  -- ---- beside each other: an outcome that the stage may have

  module _ {R : Type 0} (rt : Bor R) where
    mutual
      pub does_one : (k : ℕ) (st : Stage) → Fits s true st → (x : Record) (r : Outcome) → Does (duties_of (Beside rt) s k st) x r → One s k st x r
      does_one k (Atomic f) h x r d = then_none d.0 r d.2 ∙ d.1
      does_one k (Filter i) h x r d = let never : true ≡ false = h.0 in cc
      does_one k (Data i on) h x r d =
          let p = there s.datas i h in (p.0, p.1, alone_at (program k s.funs) p.0 (slice_get s.datas i) x r (λ m. m ≡ data_outcome s.funs p.0 k x) p.1 (λ m g. g) d)
      does_one k (DivCon i on) h x r d =
          let p = there s.divcons i h in (p.0, p.1, alone_at (division k s.funs) p.0 (slice_get s.divcons i) x r (λ m. m ≡ divcon_outcome s.funs p.0 k x) p.1 (λ m g. g) d)
      does_one k (Bnb i on) h x r d =
          let p = there s.bnbs i h in (p.0, p.1, alone_at (search k s.funs) p.0 (slice_get s.bnbs i) x r (λ m. BestOf s.funs p.0 k x m) p.1 (λ m g. g) d)
      does_one k (farm n st) h x r d = does_one k st h x r d
      does_one k (Pipe' _ sts) h x r d = does_through k sts h x r d

      does_through : {n : _} (k : ℕ) (sts : Row_of-Stage n) → AllFit s true sts → (x : Record) (r : Outcome) → Does (duties_in (Beside rt) s k sts) x r → OneThrough s k sts x r
      does_through k end_of-Stage h x r d = d
      does_through k (more_of-Stage st sts) h x r d =
          let after = duties_in (Beside rt) s (k + primitives_of st) sts in
          let p = split (duties_of (Beside rt) s k st) after x r d in (
            p.0,
            does_one k st h.0 x p.0 p.1,
            then_more p.0 r (λ y. Does after y r) (λ y. OneThrough s (k + primitives_of st) sts y r) (λ y g. does_through (k + primitives_of st) sts h.1 y r g) p.2,
          )

  -- ---- in turn: the outcome of `seq`

  seq_at : {A : Type 0} (o : Option A) (a : A) (f : A → Outcome) (r : Outcome) → o ≡ Some a → r ≡ f a → r ≡ outcome_at o f
  seq_at {A = A} o a f r is h = h ∙ sym (ap (λ (q : Option A). outcome_at q f) is)

  seq_then : (m r want : Outcome) (go : Record → Outcome) → m ≡ want → Then m (λ y. r ≡ go y) r → r ≡ (want >>= go)
  seq_then (Ok y) r want go is h = h ∙ ap (λ (o : Outcome). o >>= go) is
  seq_then (Err f) r want go is h = h ∙ ap (λ (o : Outcome). o >>= go) is

  module _ (R : Type 0) where
    mutual
      pub does_seq : (k : ℕ) (st : Stage) → Fits s true st → (x : Record) (r : Outcome) → Does (duties_of {R = R} InTurn s k st) x r → r ≡ seq_one s k st x
      does_seq k (Atomic f) h x r d = then_none d.0 r d.2 ∙ d.1
      does_seq k (Filter i) h x r d = let never : true ≡ false = h.0 in cc
      does_seq k (Data i on) h x r d =
          let p = there s.datas i h in
          let o = slice_get s.datas i in
          seq_at o p.0 (λ q. data_outcome s.funs q k x) r p.1 (alone_at (program k s.funs) p.0 o x r (λ m. m ≡ data_outcome s.funs p.0 k x) p.1 (λ m g. g) d)
      does_seq k (DivCon i on) h x r d =
          let p = there s.divcons i h in
          let o = slice_get s.divcons i in
          seq_at o p.0 (λ q. divcon_outcome s.funs q k x) r p.1 (alone_at (division k s.funs) p.0 o x r (λ m. m ≡ divcon_outcome s.funs p.0 k x) p.1 (λ m g. g) d)
      does_seq k (Bnb i on) h x r d =
          let p = there s.bnbs i h in
          let o = slice_get s.bnbs i in
          seq_at o p.0 (λ q. first_best_outcome s.funs q k x) r p.1 (alone_at (first_search k s.funs) p.0 o x r (λ m. m ≡ first_best_outcome s.funs p.0 k x) p.1 (λ m g. g) d)
      does_seq k (farm n st) h x r d = does_seq k st h x r d
      does_seq k (Pipe' _ sts) h x r d = seq_in k sts h x r d

      seq_in : {n : _} (k : ℕ) (sts : Row_of-Stage n) → AllFit s true sts → (x : Record) (r : Outcome) → Does (duties_in {R = R} InTurn s k sts) x r → r ≡ seq_through s k sts x
      seq_in k end_of-Stage h x r d = d
      seq_in k (more_of-Stage st sts) h x r d =
          let after = duties_in {R = R} InTurn s (k + primitives_of st) sts in
          let go = seq_through s (k + primitives_of st) sts in
          let p = split (duties_of {R = R} InTurn s k st) after x r d in
          seq_then p.0 r (seq_one s k st x) go (does_seq k st h.0 x p.0 p.1) (then_more p.0 r (λ y. Does after y r) (λ y. r ≡ go y) (λ y g. seq_in (k + primitives_of st) sts h.1 y r g) p.2)

  pub does_means : {R : Type 0} (how : How R) (k : ℕ) (st : Stage) → Fits s true st → (x : Record) (r : Outcome) → Does (duties_of how s k st) x r → OneMeans how s k st x r
  does_means {R = R} InTurn k st h x r d = does_seq R k st h x r d
  does_means (Beside rt) k st h x r d = does_one rt k st h x r d
