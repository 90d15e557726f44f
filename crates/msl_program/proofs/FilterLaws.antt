-- What a filter makes of the beginning of a stream begins what it makes of the whole.
use Rattle.std.proofs.Common.{◌≡◌, ℕ, List, [], ◌∷◌, ◌++◌, Result, Ok, Err, refl, sym, ap, ◌∙◌, ◌⊎◌, inl, inr}
use Rattle.msl_base.specs.declared.fault.Fault.{Fault}
use Rattle.msl_base.specs.Streams.{Record, Ending, done, failed, unread, cut, Stream, stream, before, IsOpen, PrefixLaw}
use Rattle.msl_base.proofs.StreamLaws.{before-before, not_failed}
use Rattle.msl_fun.specs.declared.funs.Fun.{Fun}
use Rattle.msl_program.specs.declared.script.FilterSpec.{FilterSpec}
use Rattle.msl_program.specs.Filters.{flushed, all_or_fault, at_end, and_then, stepped, filtered_from, filtered}

-- an output ends as its input or with a fault
abbrev EndsAs : Ending → Ending → Type 0
EndsAs e e' = (e' ≡ e) ⊎ ((f : Fault) × (e' ≡ failed f))

module _ (funs : List Fun) (f : FilterSpec) (stage : ℕ) where
  -- from a state on
  abbrev from : Record → List Record → Ending → Stream
  from s X e = filtered_from funs f stage s X e

  -- with more records behind those that a filter has gone through, it goes on from some state
  abbrev GoesOn : Stream → List Record → Ending → Stream → Type 0
  GoesOn begun more e whole = (u : Record) × (whole ≡ before begun.records (from u more e))

  step_on : (r : Result (List Record × Record) Fault) (X more : List Record) (stop e : Ending) → IsOpen stop
      → ((t : Record) → (from t X stop).ending ≡ stop → GoesOn (from t X stop) more e (from t (X ++ more) e))
      → (and_then funs f stage r (λ t. from t X stop)).ending ≡ stop
      → GoesOn (and_then funs f stage r (λ t. from t X stop)) more e (and_then funs f stage r (λ t. from t (X ++ more) e))
  step_on (Ok (ys, t)) X more stop e open_end rest h =
      let (u, is) = rest t h in
      (u, ap (before ys) is ∙ before-before ys (from t X stop).records (from u more e))
  step_on (Err g) X more stop e open_end rest h = absurd (not_failed stop g open_end (sym h))

  on : (s : Record) (X more : List Record) (stop e : Ending) → IsOpen stop → (from s X stop).ending ≡ stop → GoesOn (from s X stop) more e (from s (X ++ more) e)
  on s [] more unread e open_end h = (s, refl)
  on s [] more cut e open_end h = (s, refl)
  on s [] more done e open_end h = absurd open_end
  on s [] more (failed g) e open_end h = absurd open_end
  on s (x ∷ X) more stop e open_end h = step_on (stepped funs f stage s x) X more stop e open_end (λ t. on t X more stop e open_end) h

  -- a fault that was met is the end
  step_kept : (r : Result (List Record × Record) Fault) (X more : List Record) (g : Fault) (stop e : Ending)
      → ((t : Record) → (from t X stop).ending ≡ failed g → from t (X ++ more) e ≡ from t X stop)
      → (and_then funs f stage r (λ t. from t X stop)).ending ≡ failed g → and_then funs f stage r (λ t. from t (X ++ more) e) ≡ and_then funs f stage r (λ t. from t X stop)
  step_kept (Ok (ys, t)) X more g stop e rest h = ap (before ys) (rest t h)
  step_kept (Err why) X more g stop e rest h = refl

  kept : (s : Record) (X more : List Record) (g : Fault) (stop e : Ending) → IsOpen stop → (from s X stop).ending ≡ failed g → from s (X ++ more) e ≡ from s X stop
  kept s [] more g unread e open_end h = cc
  kept s [] more g cut e open_end h = cc
  kept s [] more g done e open_end h = absurd open_end
  kept s [] more g (failed f) e open_end h = absurd open_end
  kept s (x ∷ X) more g stop e open_end h = step_kept (stepped funs f stage s x) X more g stop e (λ t. kept t X more g stop e open_end) h

  all_ends : (r : Result (List Record) Fault) → EndsAs done (all_or_fault funs f stage r).ending
  all_ends (Ok ys) = inl refl
  all_ends (Err g) = inr (g, refl)

  at_end_ends : (s : Record) (e : Ending) → EndsAs e (at_end funs f stage s e).ending
  at_end_ends s done = all_ends (flushed funs f stage s)
  at_end_ends s (failed g) = inl refl
  at_end_ends s unread = inl refl
  at_end_ends s cut = inl refl

  step_ends : (r : Result (List Record × Record) Fault) (X : List Record) (e : Ending) → ((t : Record) → EndsAs e (from t X e).ending) → EndsAs e (and_then funs f stage r (λ t. from t X e)).ending
  step_ends (Ok (ys, t)) X e rest = rest t
  step_ends (Err g) X e rest = inr (g, refl)

  ended : (s : Record) (X : List Record) (e : Ending) → EndsAs e (from s X e).ending
  ended s [] e = at_end_ends s e
  ended s (x ∷ X) e = step_ends (stepped funs f stage s x) X e (λ t. ended t X e)

  abbrev pub Filters : Stream → Stream → Type 0
  Filters X Y = Y ≡ filtered funs f stage X

  goes_on : (X more Y : List Record) (stop e : Ending) → IsOpen stop → Filters (stream X stop) (stream Y stop)
      → (rest : List Record) × (end : Ending) × Filters (stream (X ++ more) e) (stream (Y ++ rest) end)
  goes_on X more Y stop e open_end h =
      let (u, is) = on f.state X more stop e open_end (sym (ap (λ (w : Stream). w.ending) h)) in
      let rest = from u more e in
      (rest.records, rest.ending, ap (λ (w : Stream). before w.records rest) h ∙ sym is)

  pub filter_prefixes : PrefixLaw Filters
  filter_prefixes = record {
    goes_on = goes_on;
    keeps = λ X more Y g stop e open_end h. h ∙ sym (kept f.state X more g stop e open_end (sym (ap (λ (w : Stream). w.ending) h)));
    ends = λ X Y h. rw h (ended f.state X.records X.ending);
  }
