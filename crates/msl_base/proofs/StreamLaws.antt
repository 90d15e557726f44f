-- Streams that are treated record by record: one answer, the law of prefixes, orders, and sound outputs.
use Rattle.std.proofs.Common.{◌≡◌, List, [], ◌∷◌, ◌++◌, map, Option, Some, None, Ok, Err, refl, sym, ap, ◌∙◌, append_assoc, append-nil, ◌⊎◌, inl, inr, subst}
use Rattle.std.proofs.lemmas.List.Sorted.{IsPermutation-refl}
use Rattle.std.proofs.lemmas.List.{map-append}
use Rattle.msl_base.specs.declared.fault.Fault.{Fault}
use Rattle.msl_base.specs.Streams.{Record, Outcome, Trial, Ending, done, failed, unread, cut, Stream, stream, before, tried, trial_of, AllTrue, goods, before_fault, first_fault, EndsBy, end_by, Pointwise, Unordered, pointwise, IsFunction, IsOpen, PrefixLaw, SoundBy, Sound}

-- where nothing faults, what comes behind goes on
none_append : (ts us : List Trial) → first_fault ts ≡ None → (before_fault (ts ++ us) ≡ before_fault ts ++ before_fault us) × (first_fault (ts ++ us) ≡ first_fault us)
none_append [] us h = (refl, refl)
none_append ((x, Ok y) ∷ ts) us h = let m = none_append ts us h in (ap (λ ys. y ∷ ys) m.0, m.1)
none_append ((x, Err f) ∷ ts) us h = cc

-- behind a fault nothing counts
fault_append : (ts us : List Trial) (f : Fault) → first_fault ts ≡ Some f → (before_fault (ts ++ us) ≡ before_fault ts) × (first_fault (ts ++ us) ≡ Some f)
fault_append [] us f h = cc
fault_append ((x, Ok y) ∷ ts) us f h = let m = fault_append ts us f h in (ap (λ ys. y ∷ ys) m.0, m.1)
fault_append ((x, Err g) ∷ ts) us f h = (refl, h)

pub ends_so : (o : Option Fault) (e : Ending) → EndsBy o [] e (end_by o e)
ends_so (Some f) e = refl
ends_so None e = (refl, refl)

-- the end of the output, and what was not tried
by_ends : (o : Option Fault) (rest : List Record) (e e' : Ending) → EndsBy o rest e e' → e' ≡ end_by o e
by_ends (Some f) rest e e' h = h
by_ends None rest e e' h = h.1

pub ends_as : (o : Option Fault) (rest : List Record) (e e' : Ending) → EndsBy o rest e e' → (e' ≡ e) ⊎ ((f : Fault) × (e' ≡ failed f))
ends_as None rest e e' h = inl h.1
ends_as (Some f) rest e e' h = inr (f, h)

-- no open end is a fault
pub not_failed : (stop : Ending) (f : Fault) → IsOpen stop → stop ≡ failed f → ⊥
not_failed unread f is h = cc
not_failed cut f is h = cc
not_failed done f is h = is
not_failed (failed g) f is h = is

-- an output that is open has no fault before it, and one that ends with a fault has met it
pub open_is_whole : (o : Option Fault) (rest : List Record) (stop : Ending) → IsOpen stop → EndsBy o rest stop stop → (o ≡ None) × (rest ≡ [])
open_is_whole None rest stop is h = (refl, h.0)
open_is_whole (Some f) rest stop is h = absurd (not_failed stop f is h)

pub fault_stays : (o : Option Fault) (rest more : List Record) (f : Fault) (stop e : Ending) → IsOpen stop → EndsBy o rest stop (failed f) → EndsBy o (rest ++ more) e (failed f)
fault_stays (Some g) rest more f stop e is h = h
fault_stays None rest more f stop e is h = absurd (not_failed stop f is (sym h.1))

module _ (one : Record → Outcome → Type 0) where
  pub true_append : (ts us : List Trial) → AllTrue one ts → AllTrue one us → AllTrue one (ts ++ us)
  true_append [] us a b = b
  true_append (t ∷ ts) us a b = (a.0, true_append ts us a.1 b)

  abbrev pub IsTotal : Type 0
  IsTotal = (x : Record) → (r : Outcome) × one x r

  pub trials_of : IsTotal → (X : List Record) → (ts : List Trial) × AllTrue one ts × (map tried ts ≡ X)
  trials_of total [] = ([], tt, refl)
  trials_of total (x ∷ X) = let r = total x in let more = trials_of total X in ((x, r.0) ∷ more.0, (r.1, more.1), ap (λ l. x ∷ l) more.2)

  keeps_faults : (X more Y : List Record) (f : Fault) (stop e : Ending) → IsOpen stop → Pointwise one (stream X stop) (stream Y (failed f))
      → Pointwise one (stream (X ++ more) e) (stream Y (failed f))
  keeps_faults X more Y f stop e is h = record {
    trials = h.trials;
    rest = h.rest ++ more;
    all = h.all;
    from = ap (λ l. l ++ more) h.from ∙ append_assoc (map tried h.trials) h.rest more;
    to = h.to;
    ends = fault_stays (first_fault h.trials) h.rest more f stop e is h.ends;
  }

  -- more trials behind trials without a fault
  extended : (X Y : List Record) (us : List Trial) (stop e : Ending) → IsOpen stop → Pointwise one (stream X stop) (stream Y stop) → AllTrue one us
      → Pointwise one (stream (X ++ map tried us) e) (stream (Y ++ before_fault us) (end_by (first_fault us) e))
  extended X Y us stop e is h a =
      let whole = open_is_whole (first_fault h.trials) h.rest stop is h.ends in
      let both = none_append h.trials us whole.0 in
      record {
        trials = h.trials ++ us;
        rest = [];
        all = true_append h.trials us h.all a;
        from = ap (λ l. l ++ map tried us) (h.from ∙ ap (λ l. map tried h.trials ++ l) whole.1 ∙ append-nil (map tried h.trials))
            ∙ sym (map-append tried h.trials us) ∙ sym (append-nil (map tried (h.trials ++ us)));
        to = ap (λ l. l ++ before_fault us) h.to ∙ sym both.0;
        ends = subst (λ (o : Option Fault). EndsBy o [] e (end_by (first_fault us) e)) (sym both.1) (ends_so (first_fault us) e);
      }

  pub prefix_law : IsTotal → PrefixLaw (Pointwise one)
  prefix_law total = record {
    goes_on = λ X more Y stop e is h.
        let ts = trials_of total more in
        (before_fault ts.0, end_by (first_fault ts.0) e, subst (λ (l : List Record). Pointwise one (stream (X ++ l) e) (stream (Y ++ before_fault ts.0) (end_by (first_fault ts.0) e))) ts.2 (extended X Y ts.0 stop e is h ts.1));
    keeps = keeps_faults;
    ends = λ X Y h. ends_as (first_fault h.trials) h.rest X.ending Y.ending h.ends;
  }

module _ (f : Record → Outcome) where
  abbrev pub Is : Record → Outcome → Type 0
  Is x r = r ≡ f x

  all_true : (X : List Record) → AllTrue Is (map (trial_of f) X)
  all_true [] = tt
  all_true (x ∷ X) = (refl, all_true X)

  tried_of : (X : List Record) → map tried (map (trial_of f) X) ≡ X
  tried_of [] = refl
  tried_of (x ∷ X) = ap (λ l. x ∷ l) (tried_of X)

  -- true trials are those of the function
  same_trials : (ts : List Trial) → AllTrue Is ts → map (trial_of f) (map tried ts) ≡ ts
  same_trials [] a = refl
  same_trials ((x, r) ∷ ts) a = ap (λ (q : Outcome). (x, q) ∷ map (trial_of f) (map tried ts)) (sym a.0) ∙ ap (λ l. (x, r) ∷ l) (same_trials ts a.1)

  -- the first trials decide
  first_decide : (o : Option Fault) (ts us : List Trial) (rest : List Record) (e e' : Ending) → first_fault ts ≡ o → EndsBy o rest e e' → us ≡ map (trial_of f) rest
      → (before_fault (ts ++ us) ≡ before_fault ts) × (end_by (first_fault (ts ++ us)) e ≡ e')
  first_decide (Some g) ts us rest e e' is h u =
      let m = fault_append ts us g is in (m.0, ap (λ (o : Option Fault). end_by o e) m.1 ∙ sym h)
  first_decide None ts us rest e e' is h u =
      let none : us ≡ [] = u ∙ ap (map (trial_of f)) h.0 in
      let same : ts ++ us ≡ ts = ap (λ (l : List Trial). ts ++ l) none ∙ append-nil ts in
      (ap before_fault same, ap (λ (l : List Trial). end_by (first_fault l) e) same ∙ ap (λ (o : Option Fault). end_by o e) is ∙ sym h.1)

  alike : (X Y : Stream) → Pointwise Is X Y → Y ≡ pointwise f X
  alike X Y h =
      let split : map (trial_of f) X.records ≡ h.trials ++ map (trial_of f) h.rest =
      ap (map (trial_of f)) h.from ∙ map-append (trial_of f) (map tried h.trials) h.rest
      ∙ ap (λ (l : List Trial). l ++ map (trial_of f) h.rest) (same_trials h.trials h.all) in
      let d = first_decide (first_fault h.trials) h.trials (map (trial_of f) h.rest) h.rest X.ending Y.ending refl h.ends refl in
      let records : Y.records ≡ before_fault (map (trial_of f) X.records) = h.to ∙ sym d.0 ∙ ap before_fault (sym split) in
      let ending : Y.ending ≡ end_by (first_fault (map (trial_of f) X.records)) X.ending = sym d.1 ∙ ap (λ (l : List Trial). end_by (first_fault l) X.ending) (sym split) in
      λ i. record { records = records i; ending = ending i }

  pub is_run : (X : Stream) → Pointwise Is X (pointwise f X)
  is_run X = record {
    trials = map (trial_of f) X.records;
    rest = [];
    all = all_true X.records;
    from = sym (tried_of X.records) ∙ sym (append-nil (map tried (map (trial_of f) X.records)));
    to = refl;
    ends = ends_so (first_fault (map (trial_of f) X.records)) X.ending;
  }

  pub is_the_function : IsFunction (Pointwise Is) (pointwise f)
  is_the_function X Y = (alike X Y, is_run X)

  pub function_prefixes : PrefixLaw (Pointwise Is)
  function_prefixes = prefix_law Is (λ x. (f x, refl))

  -- the trials up to the first fault, and what is not tried then
  record UpTo (X : List Record) : Type 0 where
    trials : List Trial
    rest : List Record
    all : AllTrue Is trials
    from : X ≡ map tried trials ++ rest
    good : before_fault (map (trial_of f) X) ≡ goods trials
    first : first_fault (map (trial_of f) X) ≡ first_fault trials
    ends : (e : Ending) → EndsBy (first_fault trials) rest e (end_by (first_fault trials) e)

  add_trial : (x : Record) (X : List Record) (r : Outcome) → f x ≡ r → UpTo X → UpTo (x ∷ X)
  add_trial x X (Ok y) is u = record {
    trials = (x, Ok y) ∷ u.trials;
    rest = u.rest;
    all = (sym is, u.all);
    from = ap (λ l. x ∷ l) u.from;
    good = ap (λ (r : Outcome). before_fault ((x, r) ∷ map (trial_of f) X)) is ∙ ap (λ l. y ∷ l) u.good;
    first = ap (λ (r : Outcome). first_fault ((x, r) ∷ map (trial_of f) X)) is ∙ u.first;
    ends = u.ends;
  }
  add_trial x X (Err g) is u = record {
    trials = (x, Err g) ∷ [];
    rest = X;
    all = (sym is, tt);
    from = refl;
    good = ap (λ (r : Outcome). before_fault ((x, r) ∷ map (trial_of f) X)) is;
    first = ap (λ (r : Outcome). first_fault ((x, r) ∷ map (trial_of f) X)) is;
    ends = λ e. refl;
  }

  up_to : (X : List Record) → UpTo X
  up_to [] = record { trials = []; rest = []; all = tt; from = refl; good = refl; first = refl; ends = λ e. (refl, refl) }
  up_to (x ∷ X) = add_trial x X (f x) refl (up_to X)

  pub in_order : (X : Stream) → Unordered Is X (pointwise f X)
  in_order X =
      let u = up_to X.records in
      record {
        trials = u.trials;
        order = u.trials;
        rest = u.rest;
        all = u.all;
        reordered = IsPermutation-refl u.trials;
        from = u.from;
        to = u.good;
        ends = subst (λ (o : Option Fault). EndsBy (first_fault u.trials) u.rest X.ending (end_by o X.ending)) (sym u.first) (u.ends X.ending);
      }

-- an output is sound
pub sound_of : (R : Stream → Stream → Type 0) (X Y : Stream) → R X Y → Sound R X Y
sound_of R X Y r = by_end Y.ending Y.records r
  where
    by_end : (e : Ending) (ys : List Record) → R X (stream ys e) → SoundBy e R X ys
    by_end done ys r = r
    by_end (failed f) ys r = r
    by_end unread ys r = r
    by_end cut ys r = ([], cut, subst (λ (l : List Record). R X (stream l cut)) (sym (append-nil ys)) r)

-- ---- the function, record by record

-- a record that gives a record
pub pointwise-good : (f : Record → Outcome) (x y : Record) (s : Stream) → f x ≡ Ok y → pointwise f (before (x ∷ []) s) ≡ before (y ∷ []) (pointwise f s)
pointwise-good f x y s e =
    ap (λ (r : Outcome). stream (before_fault ((x, r) ∷ map (trial_of f) s.records)) (end_by (first_fault ((x, r) ∷ map (trial_of f) s.records)) s.ending)) e

-- a record that faults
pub pointwise-bad : (f : Record → Outcome) (x : Record) (why : Fault) (s : Stream) → f x ≡ Err why → pointwise f (before (x ∷ []) s) ≡ stream [] (failed why)
pointwise-bad f x why s e =
    ap (λ (r : Outcome). stream (before_fault ((x, r) ∷ map (trial_of f) s.records)) (end_by (first_fault ((x, r) ∷ map (trial_of f) s.records)) s.ending)) e

pub before-before : (a b : List Record) (s : Stream) → before a (before b s) ≡ before (a ++ b) s
before-before a b s = ap (λ (t : List Record). stream t s.ending) (sym (append_assoc a b s.records))
