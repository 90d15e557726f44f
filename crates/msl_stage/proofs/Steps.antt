-- What a line makes of one record more, of a fault, and of the end of its input, step by step.
use Rattle.std.proofs.Common.{arith, ◌≡◌, ℕ, zero, suc, ◌<◌, ◌≤◌, slice_index_or, List, [], ◌∷◌, ◌++◌, map, length, Ok, Err, Result, ap, sym, refl, ◌∙◌, subst, append_assoc, append-nil, inl, inr}
use Rattle.std.proofs.lemmas.List.Sorted.{IsPermutation-refl, IsPermutation-cons}
use Rattle.msl_base.specs.declared.fault.Fault.{Fault}
use Rattle.msl_base.specs.Streams.{Record, Outcome, Ending, done, failed, unread, cut, Stream, stream, before, tried, goods, before_fault, first_fault, end_by, Pointwise, Unordered}
use Rattle.msl_base.proofs.StreamLaws.{IsTotal, trials_of, ends_so}
use Rattle.msl_fun.specs.declared.funs.Fun.{Fun}
use Rattle.msl_io.specs.Text.{text, text_of}
use Rattle.msl_program.specs.Filters.{filtered_from, stepped, flushed, and_then, all_or_fault}
use Rattle.msl_program.specs.declared.script.FilterSpec.{FilterSpec}
use Rattle.msl_stage.specs.declared.filter.FilterState.{FilterState}
use Rattle.msl_stage.specs.declared.step.Step.{Step}
use Rattle.msl_stage.specs.declared.step.Step.TheVariants.{One, Filter, Farm}
use Rattle.msl_base.specs.declared.answer.Halt.{Halt}
use Rattle.msl_base.specs.declared.answer.Halt.TheVariants as halt
use Rattle.msl_stage.specs.Answers.{MayMake}
use Rattle.msl_stage.specs.Lines.{AnyOf, StepRuns, LineRuns, IsStep, AreSteps}
use Rattle.msl_stage.specs.Feeding.{GoesOn, StopsAt, IsBegun, IsCut}

pub text-append : (a b : List Record) → text (a ++ b) ≡ text a ++ text b
text-append [] b = refl
text-append (x ∷ xs) b = ap (λ (t : List ℕ). text_of x ++ t) (text-append xs b) ∙ sym (append_assoc (text_of x) (text xs) (text b))

pub before-before : (a b : List Record) (s : Stream) → before a (before b s) ≡ before (a ++ b) s
before-before a b s = ap (λ (t : List Record). stream t s.ending) (sym (append_assoc a b s.records))

-- the end of an input at which no filter flushes
abbrev pub IsNotDone : Ending → Type 0
IsNotDone done = ⊥
IsNotDone (failed f) = Unit {0}
IsNotDone unread = Unit {0}
IsNotDone cut = Unit {0}

-- ---- one step

module _ (one : Record → Outcome → Type 0) where
  one_more : (x y : Record) (S T : Stream) → one x (Ok y) → Pointwise one S T → Pointwise one (before (x ∷ []) S) (before (y ∷ []) T)
  one_more x y S T is h = record {
    trials = (x, Ok y) ∷ h.trials;
    rest = h.rest;
    all = (is, h.all);
    from = ap (λ (l : List Record). x ∷ l) h.from;
    to = ap (λ (l : List Record). y ∷ l) h.to;
    ends = h.ends;
  }

  one_fault : (x : Record) (f : Fault) (S : Stream) → one x (Err f) → Pointwise one (before (x ∷ []) S) (stream [] (failed f))
  one_fault x f S is = record { trials = (x, Err f) ∷ []; rest = S.records; all = (is, tt); from = refl; to = refl; ends = refl }

  one_end : (e : Ending) → Pointwise one (stream [] e) (stream [] e)
  one_end e = record { trials = []; rest = []; all = tt; from = refl; to = refl; ends = (refl, refl) }

  one_total : IsTotal one → (S : Stream) → (T : Stream) × Pointwise one S T
  one_total total S =
      let ts = trials_of one total S.records in (
        stream (before_fault ts.0) (end_by (first_fault ts.0) S.ending),
        record {
          trials = ts.0;
          rest = [];
          all = ts.1;
          from = sym ts.2 ∙ sym (append-nil (map tried ts.0));
          to = refl;
          ends = ends_so (first_fault ts.0) S.ending;
        },
      )

  -- the same by several workers
  any_more : (x y : Record) (S T : Stream) → one x (Ok y) → Unordered one S T → Unordered one (before (x ∷ []) S) (before (y ∷ []) T)
  any_more x y S T is h = record {
    trials = (x, Ok y) ∷ h.trials;
    order = (x, Ok y) ∷ h.order;
    rest = h.rest;
    all = (is, h.all);
    reordered = IsPermutation-cons (x, Ok y) h.trials h.order h.reordered;
    from = ap (λ (l : List Record). x ∷ l) h.from;
    to = ap (λ (l : List Record). y ∷ l) h.to;
    ends = h.ends;
  }

  any_fault : (x : Record) (f : Fault) (S : Stream) → one x (Err f) → Unordered one (before (x ∷ []) S) (stream [] (failed f))
  any_fault x f S is = record { trials = (x, Err f) ∷ []; order = (x, Err f) ∷ []; rest = S.records; all = (is, tt); reordered = IsPermutation-refl ((x, Err f) ∷ []); from = refl; to = refl; ends = refl }

  any_end : (e : Ending) → Unordered one (stream [] e) (stream [] e)
  any_end e = record { trials = []; order = []; rest = []; all = tt; reordered = IsPermutation-refl []; from = refl; to = refl; ends = (refl, refl) }

  any_total : IsTotal one → (S : Stream) → (T : Stream) × Unordered one S T
  any_total total S =
      let ts = trials_of one total S.records in (
        stream (goods ts.0) (end_by (first_fault ts.0) S.ending),
        record {
          trials = ts.0;
          order = ts.0;
          rest = [];
          all = ts.1;
          reordered = IsPermutation-refl ts.0;
          from = sym ts.2 ∙ sym (append-nil (map tried ts.0));
          to = refl;
          ends = ends_so (first_fault ts.0) S.ending;
        },
      )

-- a filter at the end of an input that is not whole
filter_end : (funs : List Fun) (p : FilterSpec) (stage : ℕ) (s : Record) (e : Ending) → IsNotDone e → stream [] e ≡ filtered_from funs p stage s [] e
filter_end funs p stage s done not = absurd not
filter_end funs p stage s (failed f) not = refl
filter_end funs p stage s unread not = refl
filter_end funs p stage s cut not = refl

-- ---- one step behind another

-- what two relations make one behind the other
abbrev pub Behind : (Stream → Stream → Type 0) → (Stream → Stream → Type 0) → Stream → Stream → Type 0
Behind R Q X Y = (Z : Stream) × R X Z × Q Z Y

abbrev pub HasAll : (Stream → Stream → Type 0) → Type 0
HasAll R = (S : Stream) → (T : Stream) × R S T

abbrev pub PassesEnds : (Stream → Stream → Type 0) → Type 0
PassesEnds R = (e : Ending) → IsNotDone e → R (stream [] e) (stream [] e)

module _ (R' R Q' Q : Stream → Stream → Type 0) (got made : List Record) (goes : GoesOn R' R got made) where
  pub then_goes : (sent : List Record) → GoesOn Q' Q made sent → GoesOn (Behind R' Q') (Behind R Q) got sent
  then_goes sent more S T (Z, r, q) = (before made Z, goes S Z r, more Z T q)

  pub then_stops : HasAll R' → (sent : List Record) (f : Fault) → StopsAt Q made sent f → StopsAt (Behind R Q) got sent f
  then_stops all sent f stops S = let z = all S in (before made z.0, goes S z.0 z.1, stops z.0)

  pub then_begun : HasAll R' → (sent : List Record) → IsBegun Q made sent → IsBegun (Behind R Q) got sent
  then_begun all sent begun S =
      let z = all S in
      let t = begun z.0 in (t.0, (before made z.0, goes S z.0 z.1, t.1), t.2, t.3)

  pub then_cut : HasAll R' → (written : List ℕ) → IsCut Q made written → IsCut (Behind R Q) got written
  then_cut all written begun S =
      let z = all S in
      let t = begun z.0 in (t.0, (before made z.0, goes S z.0 z.1, t.1), t.2, t.3)

-- a step that faults
pub stops_here : (R Q : Stream → Stream → Type 0) (got : List Record) (f : Fault) → StopsAt R got [] f → PassesEnds Q → StopsAt (Behind R Q) got [] f
stops_here R Q got f stops passes S = (stream [] (failed f), stops S, passes (failed f) tt)

-- nothing was made yet
pub begun_none : (R : Stream → Stream → Type 0) (got : List Record) → HasAll R → IsBegun R got []
begun_none R got all S = let t = all (before got S) in (t.0, t.1, t.0.records, refl)

pub goes_none : (R : Stream → Stream → Type 0) → GoesOn R R [] []
goes_none R S T r = r

-- ---- records one after the other

module _ (R'' R' R : Stream → Stream → Type 0) (xs ys made sent : List Record) (goes : GoesOn R' R xs made) where
  pub goes_more : GoesOn R'' R' ys sent → GoesOn R'' R (xs ++ ys) (made ++ sent)
  goes_more more S T r = subst (λ (X : Stream). R X (before (made ++ sent) T)) (before-before xs ys S)
      (subst (R (before xs (before ys S))) (before-before made sent T) (goes (before ys S) (before sent T) (more S T r)))

  pub stops_more : (f : Fault) → StopsAt R' ys sent f → StopsAt R (xs ++ ys) (made ++ sent) f
  stops_more f stops S = subst (λ (X : Stream). R X (stream (made ++ sent) (failed f))) (before-before xs ys S) (goes (before ys S) (stream sent (failed f)) (stops S))

  pub begun_more : IsBegun R' ys sent → IsBegun R (xs ++ ys) (made ++ sent)
  begun_more begun S =
      let t = begun S in (
        before made t.0,
        subst (λ (X : Stream). R X (before made t.0)) (before-before xs ys S) (goes (before ys S) t.0 t.1),
        t.2,
        ap (λ (l : List Record). made ++ l) t.3 ∙ sym (append_assoc made sent t.2),
      )

pub cut_more : (R' R : Stream → Stream → Type 0) (xs ys made : List Record) (written : List ℕ) → GoesOn R' R xs made → IsCut R' ys written → IsCut R (xs ++ ys) (text made ++ written)
cut_more R' R xs ys made written goes cuts S =
    let t = cuts S in (
      before made t.0,
      subst (λ (X : Stream). R X (before made t.0)) (before-before xs ys S) (goes (before ys S) t.0 t.1),
      t.2,
      text-append made t.0.records ∙ ap (λ (l : List ℕ). text made ++ l) t.3 ∙ sym (append_assoc (text made) written t.2),
    )

-- ---- a line

module _ {O : Type 0} (one : O → Record → Outcome → Type 0) (total : (w : O) (x : Record) → (r : Outcome) × one w x r) (funs : List Fun) where
  any_of_total : (ws : List O) → 1 ≤ length ws → IsTotal (AnyOf one ws)
  any_of_total [] some x = absurd (omega (arith, some))
  any_of_total (w ∷ ws) some x = let r = total w x in (r.0, inl r.1)

  pub step_total : (s : Step O) → IsStep one funs s → HasAll (StepRuns one funs s)
  step_total (One w) is S = one_total (one w) (total w) S
  step_total (Filter f) is S = (filtered_from funs f.spec.now f.stage f.state S.records S.ending, refl)
  step_total (Farm ws) is S = any_total (AnyOf one ws) (any_of_total ws is) S

  pub line_total : (ss : List (Step O)) → AreSteps one funs ss → HasAll (LineRuns one funs ss)
  line_total [] are S = (S, refl)
  line_total (s ∷ ss) are S =
      let z = step_total s are.0 S in
      let t = line_total ss are.1 z.0 in (t.0, (z.0, z.1, t.1))

  step_passes : (s : Step O) → PassesEnds (StepRuns one funs s)
  step_passes (One w) e not = one_end (one w) e
  step_passes (Filter f) e not = filter_end funs f.spec.now f.stage f.state e not
  step_passes (Farm ws) e not = any_end (AnyOf one ws) e

  pub line_passes : (ss : List (Step O)) → PassesEnds (LineRuns one funs ss)
  line_passes [] e not = refl
  line_passes (s ∷ ss) e not = (stream [] e, step_passes s e not, line_passes ss e not)

  -- what a step makes of a record
  pub one_goes : (w : O) (x y : Record) → one w x (Ok y) → GoesOn (StepRuns one funs (One w)) (StepRuns one funs (One w)) (x ∷ []) (y ∷ [])
  one_goes w x y is S T r = one_more (one w) x y S T is r

  pub one_stops : (w : O) (x : Record) (f : Fault) → one w x (Err f) → StopsAt (StepRuns one funs (One w)) (x ∷ []) [] f
  one_stops w x f is S = one_fault (one w) x f S is

  pub farm_goes : (ws : List O) (x y : Record) → AnyOf one ws x (Ok y) → GoesOn (StepRuns one funs (Farm ws)) (StepRuns one funs (Farm ws)) (x ∷ []) (y ∷ [])
  farm_goes ws x y is S T r = any_more (AnyOf one ws) x y S T is r

  pub farm_stops : (ws : List O) (x : Record) (f : Fault) → AnyOf one ws x (Err f) → StopsAt (StepRuns one funs (Farm ws)) (x ∷ []) [] f
  farm_stops ws x f is S = any_fault (AnyOf one ws) x f S is

  -- the filter with this state
  abbrev pub at_state : FilterState → Record → Stream → Stream → Type 0
  at_state f s X Y = Y ≡ filtered_from funs f.spec.now f.stage s X.records X.ending

  pub filter_goes : (f : FilterState) (x s : Record) (ys : List Record) → stepped funs f.spec.now f.stage f.state x ≡ Ok (ys, s)
      → GoesOn (at_state f s) (at_state f f.state) (x ∷ []) ys
  filter_goes f x s ys is S T r =
      ap (before ys) r ∙ sym (ap (λ (q : Result (List Record × Record) Fault). and_then funs f.spec.now f.stage q (λ t. filtered_from funs f.spec.now f.stage t S.records S.ending)) is)

  pub filter_stops : (f : FilterState) (x : Record) (why : Fault) → stepped funs f.spec.now f.stage f.state x ≡ Err why → StopsAt (at_state f f.state) (x ∷ []) [] why
  filter_stops f x why is S =
      sym (ap (λ (q : Result (List Record × Record) Fault). and_then funs f.spec.now f.stage q (λ t. filtered_from funs f.spec.now f.stage t S.records S.ending)) is)

  pub filter_flushes : (f : FilterState) (ys : List Record) → flushed funs f.spec.now f.stage f.state ≡ Ok ys → at_state f f.state (stream [] done) (stream ys done)
  filter_flushes f ys is = sym (ap (all_or_fault funs f.spec.now f.stage) is)

  pub filter_fails : (f : FilterState) (why : Fault) → flushed funs f.spec.now f.stage f.state ≡ Err why → at_state f f.state (stream [] done) (stream [] (failed why))
  filter_fails f why is = sym (ap (all_or_fault funs f.spec.now f.stage) is)

  pub one_ends : (w : O) → StepRuns one funs (One w) (stream [] done) (stream [] done)
  one_ends w = one_end (one w) done

  pub farm_ends : (ws : List O) → StepRuns one funs (Farm ws) (stream [] done) (stream [] done)
  farm_ends ws = any_end (AnyOf one ws) done

-- ---- the workers of a farm

module _ {O : Type 0} (one : O → Record → Outcome → Type 0) where
  any_at : (ws : List O) (k : ℕ) (w : O) (x : Record) (r : Outcome) → k < length ws → w ≡ slice_index_or ws k w → one w x r → AnyOf one ws x r
  any_at [] k w x r lt here is = absurd (omega (arith, lt))
  any_at (v ∷ ws) zero w x r lt here is = inl (subst (λ (u : O). one u x r) here is)
  any_at (v ∷ ws) (suc k) w x r lt here is = inr (any_at ws k w x r (omega (arith, lt)) here is)

  -- what one of them made
  pub any_makes : (A : Type 0) (ws : List O) (k : ℕ) (w : O) (x y : Record) (r : Result A Halt) → k < length ws → w ≡ slice_index_or ws k w → MayMake (one w x) y r → MayMake (AnyOf one ws x) y r
  any_makes A ws k w x y (Ok a) lt here is = any_at ws k w x (Ok y) lt here is
  any_makes A ws k w x y (Err (halt.Fault f)) lt here is = any_at ws k w x (Err f) lt here is
  any_makes A ws k w x y (Err halt.NoMemory) lt here is = tt
