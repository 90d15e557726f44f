-- Records that go through the steps from a place on.
use Rattle.std.proofs.Common.{arith, ◌≡◌, ℕ, ◌+◌, ◌<◌, zero, suc, List, [], ◌∷◌, ◌++◌, length, slice_index_or, slice_set, Bor, Option, Ok, Err, Result, ap, sym, refl, ◌∙◌, subst, append_assoc, append-nil}
use Rattle.std.specs.Io.KnownBytes.{Appends, Keeps}
use Rattle.std.proofs.KnownBytes.{Appends-kept, Appends-nil, Appends-trans}
use Rattle.std.proofs.lemmas.List.{length-append, map-append}
use Rattle.msl_base.specs.declared.fault.Fault.{Fault}
use Rattle.msl_base.specs.Records.{Kept}
use Rattle.msl_base.specs.declared.answer.Halt.{Halt}
use Rattle.msl_base.specs.declared.answer.Halt.TheVariants as halt
use Rattle.msl_base.specs.declared.fault.End.{End}
use Rattle.msl_base.specs.declared.fault.End.TheVariants as ends
use Rattle.msl_base.specs.Streams.{Record, Outcome, failed, Stream, stream, before}
use Rattle.msl_fun.specs.declared.funs.Fun.{Fun}
use Rattle.msl_io.specs.Text.{text, text_of, AppendsPart}
use Rattle.msl_program.specs.Filters.{filtered_from, stepped}
use Rattle.msl_program.specs.Promises.{FilterFits}
use Rattle.msl_program.specs.declared.script.FilterSpec.{FilterSpec}
use Rattle.msl_stage.specs.declared.filter.FilterState.{FilterState}
use Rattle.msl_stage.specs.declared.step.Step.{Step}
use Rattle.msl_stage.specs.declared.step.Step.TheVariants.{Filter}
use Rattle.msl_stage.specs.Lines.{StepRuns, LineRuns, IsStep, AreSteps}
use Rattle.msl_stage.specs.Answers.{MayMake, StepsTo, numbers_of, records_of}
use Rattle.msl_stage.specs.Feeding.{GoesOn, StopsAt, IsCut, Fed, Feeds, Spreads, end_of}
use Rattle.msl_stage.proofs.Steps.{text-append, before-before, line_total, line_passes, step_total, then_goes, then_stops, then_begun, then_cut, stops_here, begun_none, filter_goes, filter_stops, goes_none, goes_more, stops_more, begun_more, cut_more}

-- behind the last step there is none
pub no_more : {A : Type 0} (front back all : List A) → all ≡ front ++ back → length front ≡ length all → back ≡ []
no_more front [] all is long = refl
no_more front (b ∷ bs) all is long = absurd (omega (arith, long, ap length is ∙ length-append front (b ∷ bs)))

module _ {O : Type 0} (one : O → Record → Outcome → Type 0) (funs : List Fun) where
  goes_out : (x : Record) → GoesOn (LineRuns one funs []) (LineRuns one funs []) (x ∷ []) (x ∷ [])
  goes_out x S T is = ap (before (x ∷ [])) is

  -- a record that went through all steps was written
  pub wrote : (A : Type 0) (old new : List (Step O)) (x : Record) (a : A) (h l : Option (List ℕ)) → new ≡ old → Appends h l (text_of x)
      → Feeds one funs old new (length old) (x ∷ []) (Ok a) h l
  wrote A old new x a h l same texts front back split long =
      let none = no_more front back old split long in (
        back,
        same ∙ split,
        (
          x ∷ [],
          subst (Appends h l) (sym (append-nil (text_of x))) texts,
          subst (λ (ss : List (Step O)). GoesOn (LineRuns one funs ss) (LineRuns one funs ss) (x ∷ []) (x ∷ [])) (sym none) (goes_out x),
        ),
      )

  cut_out : (x : Record) (front back : List ℕ) → text_of x ≡ front ++ back → IsCut (LineRuns one funs []) (x ∷ []) front
  cut_out x front back split S = (
    before (x ∷ []) S,
    refl,
    back ++ text S.records,
    ap (λ (t : List ℕ). t ++ text S.records) split ∙ append_assoc front back (text S.records),
  )

  -- or written in part
  pub wrote_part : (A : Type 0) (old new : List (Step O)) (x : Record) (h l : Option (List ℕ)) → new ≡ old → AppendsPart h l (text_of x)
      → Feeds one funs {A = A} old new (length old) (x ∷ []) (Err ends.Write) h l
  wrote_part A old new x h l same (written, rest, split, some, texts) front back halves long =
      let none = no_more front back old halves long in (
        back,
        same ∙ halves,
        (written, texts, subst (λ (ss : List (Step O)). IsCut (LineRuns one funs ss) (x ∷ []) written) (sym none) (cut_out x written rest split)),
      )

-- ---- a step, and the steps behind it

-- the step that is matched on stands at its place
pub here_at : {S : Type 0} (ss : List S) (at : ℕ) (found s : S) → found ≡ slice_index_or ss at found → found ≡ s → s ≡ slice_index_or ss at s
here_at {S = S} ss at found s value is = subst (λ (x : S). x ≡ slice_index_or ss at x) is value

at_front : {A : Type 0} (front back : List A) (b d : A) → slice_index_or (front ++ b ∷ back) (length front) d ≡ b
at_front [] back b d = refl
at_front (x ∷ front) back b d = at_front front back b d

set_front : {A : Type 0} (front back : List A) (b s : A) → slice_set (front ++ b ∷ back) (length front) s ≡ front ++ s ∷ back
set_front [] back b s = refl
set_front (x ∷ front) back b s = ap (λ l. x ∷ l) (set_front front back b s)

-- the same of a list that is another
pub here_in : {S : Type 0} (ss ss' : List S) (at : ℕ) (found s : S) → ss' ≡ ss → found ≡ slice_index_or ss' at found → found ≡ s → s ≡ slice_index_or ss at s
here_in {S = S} ss ss' at found s same value is = subst (λ (xs : List S). s ≡ slice_index_or xs at s) same (here_at ss' at found s value is)

-- what stands behind the front begins with the step at its end
pub begins_at : {A : Type 0} (all front back : List A) (at : ℕ) (s : A) → at < length all → s ≡ slice_index_or all at s → all ≡ front ++ back → length front ≡ at → (rest : List A) × (back ≡ s ∷ rest)
begins_at all front [] at s lt here split long = absurd (omega (arith, lt, long, ap length split ∙ length-append front []))
begins_at all front (b ∷ back) at s lt here split long =
    let is : s ≡ b = here ∙ ap (λ l. slice_index_or l at s) split ∙ ap (λ (n : ℕ). slice_index_or (front ++ b ∷ back) n s) (sym long) ∙ at_front front back b s in
    (back, ap (λ x. x ∷ back) (sym is))

set_at : {A : Type 0} (all front back : List A) (at : ℕ) (b s : A) → all ≡ front ++ b ∷ back → length front ≡ at → slice_set all at s ≡ (front ++ s ∷ []) ++ back
set_at all front back at b s split long =
    ap (λ l. slice_set l at s) split ∙ ap (λ (n : ℕ). slice_set (front ++ b ∷ back) n s) (sym long) ∙ set_front front back b s ∙ sym (append_assoc front (s ∷ []) back)

pub set_same : {A : Type 0} (xs : List A) (i : ℕ) (x : A) → x ≡ slice_index_or xs i x → i < length xs → slice_set xs i x ≡ xs
set_same [] i x here lt = refl
set_same (y ∷ xs) zero x here lt = ap (λ z. z ∷ xs) here
set_same (y ∷ xs) (suc i) x here lt = ap (λ zs. y ∷ zs) (set_same xs i x here (omega (arith, lt)))

pub long_set : {A : Type 0} (xs : List A) (i : ℕ) (x : A) → length (slice_set xs i x) ≡ length xs
long_set [] i x = refl
long_set (y ∷ xs) zero x = refl
long_set (y ∷ xs) (suc i) x = ap (λ (n : ℕ). suc n) (long_set xs i x)

module _ {O : Type 0} (one : O → Record → Outcome → Type 0) (total : (w : O) (x : Record) → (r : Outcome) × one w x r) (funs : List Fun) where
  pub are_back : (front back : List (Step O)) → AreSteps one funs (front ++ back) → AreSteps one funs back
  are_back [] back are = are
  are_back (s ∷ front) back are = are_back front back are.1

  pub is_at : (ss : List (Step O)) (at : ℕ) (s : Step O) → at < length ss → s ≡ slice_index_or ss at s → AreSteps one funs ss → IsStep one funs s
  is_at [] at s lt here are = absurd (omega (arith, lt))
  is_at (t ∷ ss) zero s lt here are = subst (IsStep one funs) (sym here) are.0
  is_at (t ∷ ss) (suc at) s lt here are = is_at ss at s (omega (arith, lt)) here are.1

  pub are_set : (ss : List (Step O)) (at : ℕ) (s : Step O) → IsStep one funs s → AreSteps one funs ss → AreSteps one funs (slice_set ss at s)
  are_set [] at s is are = tt
  are_set (t ∷ ss) zero s is are = (is, are.1)
  are_set (t ∷ ss) (suc at) s is are = (are.0, are_set ss at s is are.1)

  -- what the steps behind a step made, the step and they make
  through : (A : Type 0) (s' s : Step O) (rest' rest : List (Step O)) (got made : List Record) → IsStep one funs s' → GoesOn (StepRuns one funs s') (StepRuns one funs s) got made
      → (r : Result A End) (h l : Option (List ℕ)) → Fed (LineRuns one funs rest') (LineRuns one funs rest) made r h l → Fed (LineRuns one funs (s' ∷ rest')) (LineRuns one funs (s ∷ rest)) got r h l
  through A s' s rest' rest got made is goes (Ok a) h l fed =
      (fed.0, fed.1, then_goes (StepRuns one funs s') (StepRuns one funs s) (LineRuns one funs rest') (LineRuns one funs rest) got made goes fed.0 fed.2)
  through A s' s rest' rest got made is goes (Err (ends.Fault f)) h l fed =
      (fed.0, fed.1, then_stops (StepRuns one funs s') (StepRuns one funs s) (LineRuns one funs rest') (LineRuns one funs rest) got made goes (step_total one total funs s' is) fed.0 f fed.2)
  through A s' s rest' rest got made is goes (Err ends.Write) h l fed =
      (fed.0, fed.1, then_cut (StepRuns one funs s') (StepRuns one funs s) (LineRuns one funs rest') (LineRuns one funs rest) got made goes (step_total one total funs s' is) fed.0 fed.2)
  through A s' s rest' rest got made is goes (Err ends.Memory) h l fed =
      (fed.0, fed.1, then_begun (StepRuns one funs s') (StepRuns one funs s) (LineRuns one funs rest') (LineRuns one funs rest) got made goes (step_total one total funs s' is) fed.0 fed.2)
  through A s' s rest' rest got made is goes (Err ends.Done) h l fed = absurd fed
  through A s' s rest' rest got made is goes (Err ends.Read) h l fed = absurd fed
  through A s' s rest' rest got made is goes (Err ends.Stopped) h l fed = absurd fed

  module _ (old mid new : List (Step O)) (at : ℕ) (s' s : Step O) (lt : at < length old) (here : s ≡ slice_index_or old at s) (set : mid ≡ slice_set old at s') (got : List Record) where
    pub feeds_through : (A : Type 0) (made : List Record) (r : Result A End) (h l : Option (List ℕ)) → IsStep one funs s' → GoesOn (StepRuns one funs s') (StepRuns one funs s) got made
        → Feeds one funs mid new (at + 1) made r h l → Feeds one funs old new at got r h l
    feeds_through A made r h l is goes feeds front back split long =
        let b = begins_at old front back at s lt here split long in
        let halves : mid ≡ (front ++ s' ∷ []) ++ b.0 = set ∙ set_at old front b.0 at s s' (split ∙ ap (λ (k : List (Step O)). front ++ k) b.1) long in
        let longer : length (front ++ s' ∷ []) ≡ at + 1 = length-append front (s' ∷ []) ∙ ap (λ (n : ℕ). n + 1) long in
        let f = feeds (front ++ s' ∷ []) b.0 halves longer in (
          s' ∷ f.0,
          f.1 ∙ append_assoc front (s' ∷ []) f.0,
          subst (λ (k : List (Step O)). Fed (LineRuns one funs (s' ∷ f.0)) (LineRuns one funs k) got r h l) (sym b.1) (through A s' s f.0 b.0 got made is goes r h l f.2),
        )

    -- the step faults
    pub feeds_stops : (A : Type 0) (why : Fault) (r : Result A End) (h l : Option (List ℕ)) → StopsAt (StepRuns one funs s) got [] why
        → r ≡ Err (ends.Fault why) → new ≡ mid → Keeps h l → Feeds one funs old new at got r h l
    feeds_stops A why r h l stops is same kept front back split long =
        let b = begins_at old front back at s lt here split long in (
          s' ∷ b.0,
          same ∙ set ∙ set_at old front b.0 at s s' (split ∙ ap (λ (k : List (Step O)). front ++ k) b.1) long ∙ append_assoc front (s' ∷ []) b.0,
          subst (λ (q : Result A End). Fed (LineRuns one funs (s' ∷ b.0)) (LineRuns one funs back) got q h l) (sym is)
              ([], Appends-kept h h l [] (Appends-nil h) kept, subst (λ (k : List (Step O)). StopsAt (LineRuns one funs k) got [] why) (sym b.1) (stops_here (StepRuns one funs s) (LineRuns one funs b.0) got why stops (line_passes one total funs b.0))),
        )

    -- memory ran out at the step
    pub feeds_starves : (A : Type 0) (r : Result A End) (h l : Option (List ℕ)) → AreSteps one funs old
        → r ≡ Err ends.Memory → new ≡ mid → Keeps h l → Feeds one funs old new at got r h l
    feeds_starves A r h l are is same kept front back split long =
        let b = begins_at old front back at s lt here split long in
        let behind = are_back front back (subst (AreSteps one funs) split are) in (
          s' ∷ b.0,
          same ∙ set ∙ set_at old front b.0 at s s' (split ∙ ap (λ (k : List (Step O)). front ++ k) b.1) long ∙ append_assoc front (s' ∷ []) b.0,
          subst (λ (q : Result A End). Fed (LineRuns one funs (s' ∷ b.0)) (LineRuns one funs back) got q h l) (sym is)
              ([], Appends-kept h h l [] (Appends-nil h) kept, begun_none (LineRuns one funs back) got (line_total one total funs back behind)),
        )

    -- the step has no result
    pub feeds_halts : (A B : Type 0) (may : Outcome → Type 0) (y : Record) (why : Halt) (e : End) (h l : Option (List ℕ)) → AreSteps one funs old → ((f : Fault) → may (Err f) → StopsAt (StepRuns one funs s) got [] f)
        → MayMake {A = A} may y (Err why) → e ≡ end_of why → new ≡ mid → Keeps h l → Feeds one funs {A = B} old new at got (Err e) h l
    feeds_halts A B may y (halt.Fault f) e h l are stops makes is same kept = feeds_stops B f (Err e) h l (stops f makes) (ap Err is) same kept
    feeds_halts A B may y halt.NoMemory e h l are stops makes is same kept = feeds_starves B (Err e) h l are (ap Err is) same kept

module _ {O : Type 0} (one : O → Record → Outcome → Type 0) (total : (w : O) (x : Record) → (r : Outcome) × one w x r) (funs : List Fun) where
  -- the filter with another state, whatever names its definition and its stage
  filter_moves : (f' f : FilterState) (x : Record) (ys : List Record) → f'.spec ≡ f.spec → f'.stage ≡ f.stage → stepped funs f.spec.now f.stage f.state x ≡ Ok (ys, f'.state)
      → GoesOn (StepRuns one funs (Filter f')) (StepRuns one funs (Filter f)) (x ∷ []) ys
  filter_moves f' f x ys spec stage is =
      subst (λ (p : Bor FilterSpec). GoesOn (λ X Y. Y ≡ filtered_from funs p.now f'.stage f'.state X.records X.ending) (StepRuns one funs (Filter f)) (x ∷ []) ys) (sym spec)
      (subst (λ (n : ℕ). GoesOn (λ X Y. Y ≡ filtered_from funs f.spec.now n f'.state X.records X.ending) (StepRuns one funs (Filter f)) (x ∷ []) ys) (sym stage)
      (filter_goes one total funs f x f'.state ys is))

  filter_same : (f' f : FilterState) (r : Result (List Record × Record) Fault) (made : Result (List Kept) Halt) → StepsTo r f f' made → f'.spec ≡ f.spec
  filter_same f' f r (Ok outs) steps = steps.1
  filter_same f' f r (Err (halt.Fault why)) steps = ap (λ (q : FilterState). q.spec) steps.1
  filter_same f' f r (Err halt.NoMemory) steps = ap (λ (q : FilterState). q.spec) steps

  pub filter_is_step : (f' f : FilterState) (r : Result (List Record × Record) Fault) (made : Result (List Kept) Halt) → StepsTo r f f' made → length f'.state ≡ length f'.spec.now.state
      → IsStep one funs (Filter f) → IsStep one funs (Filter f')
  filter_is_step f' f r made steps long is = (subst (λ (p : Bor FilterSpec). FilterFits funs p.now) (sym (filter_same f' f r made steps)) is.0, long)

  module _ (old mid new : List (Step O)) (at : ℕ) (f' f : FilterState) (lt : at < length old) (here : Filter f ≡ slice_index_or old at (Filter f)) (set : mid ≡ slice_set old at (Filter f')) (x : Record) where
    -- what a filter answered to a record
    pub feeds_filter : (A : Type 0) (made : Result (List Kept) Halt) (r : Result A End) (h l : Option (List ℕ)) → AreSteps one funs old → IsStep one funs (Filter f')
        → StepsTo (stepped funs f.spec.now f.stage f.state x) f f' made → Spreads one funs mid new (at + 1) made r h l → Feeds one funs old new at (x ∷ []) r h l
    feeds_filter A (Ok outs) r h l are step steps spreads =
        feeds_through one total funs old mid new at (Filter f') (Filter f) lt here set (x ∷ []) A (records_of outs) r h l step (filter_moves f' f x (records_of outs) steps.1 steps.2 steps.0) spreads
    feeds_filter A (Err (halt.Fault why)) r h l are step steps spreads =
        feeds_stops one total funs old mid new at (Filter f') (Filter f) lt here set (x ∷ []) A why r h l (filter_stops one total funs f x why steps.0) spreads.0 spreads.1 spreads.2
    feeds_filter A (Err halt.NoMemory) r h l are step steps spreads =
        feeds_starves one total funs old mid new at (Filter f') (Filter f) lt here set (x ∷ []) A r h l are spreads.0 spreads.1 spreads.2

  -- ---- several records

  pub feeds_none : (A : Type 0) (old : List (Step O)) (at : ℕ) (a : A) (h : Option (List ℕ)) → Feeds one funs old old at [] (Ok a) h h
  feeds_none A old at a h front back split long = (back, split, ([], Appends-nil h, goes_none (LineRuns one funs back)))

  -- one record more
  pub feeds_more : (A B : Type 0) (old mid new : List (Step O)) (at : ℕ) (xs ys : List Record) (a : A) (r : Result B End) (h k l : Option (List ℕ))
      → Feeds one funs old mid at xs (Ok a) h k → Feeds one funs mid new at ys r k l → Feeds one funs old new at (xs ++ ys) r h l
  feeds_more A B old mid new at xs ys a r h k l first then front back split long =
      let f = first front back split long in
      let t = then front f.0 f.1 long in
      (t.0, t.1, more (LineRuns one funs t.0) (LineRuns one funs f.0) (LineRuns one funs back) f.2.0 f.2.1 f.2.2 r t.2)
    where
      more : (R'' R' R : Stream → Stream → Type 0) (made : List Record) → Appends h k (text made) → GoesOn R' R xs made → (r : Result B End) → Fed R'' R' ys r k l → Fed R'' R (xs ++ ys) r h l
      more R'' R' R made texts goes (Ok b) fed =
          (made ++ fed.0, subst (Appends h l) (sym (text-append made fed.0)) (Appends-trans h k l (text made) (text fed.0) texts fed.1), goes_more R'' R' R xs ys made fed.0 goes fed.2)
      more R'' R' R made texts goes (Err (ends.Fault f)) fed =
          (made ++ fed.0, subst (Appends h l) (sym (text-append made fed.0)) (Appends-trans h k l (text made) (text fed.0) texts fed.1), stops_more R'' R' R xs ys made fed.0 goes f fed.2)
      more R'' R' R made texts goes (Err ends.Write) fed =
          (text made ++ fed.0, Appends-trans h k l (text made) fed.0 texts fed.1, cut_more R' R xs ys made fed.0 goes fed.2)
      more R'' R' R made texts goes (Err ends.Memory) fed =
          (made ++ fed.0, subst (Appends h l) (sym (text-append made fed.0)) (Appends-trans h k l (text made) (text fed.0) texts fed.1), begun_more R'' R' R xs ys made fed.0 goes fed.2)
      more R'' R' R made texts goes (Err ends.Done) fed = absurd fed
      more R'' R' R made texts goes (Err ends.Read) fed = absurd fed
      more R'' R' R made texts goes (Err ends.Stopped) fed = absurd fed

  -- what is stopped is stopped, whatever comes behind
  pub feeds_no_more : (B : Type 0) (old new : List (Step O)) (at : ℕ) (xs ys : List Record) (e : End) (h l : Option (List ℕ))
      → Feeds one funs {A = B} old new at xs (Err e) h l → Feeds one funs {A = B} old new at (xs ++ ys) (Err e) h l
  feeds_no_more B old new at xs ys e h l feeds front back split long =
      let f = feeds front back split long in (f.0, f.1, more (LineRuns one funs f.0) (LineRuns one funs back) e f.2)
    where
      more : (R' R : Stream → Stream → Type 0) (e : End) → Fed {A = B} R' R xs (Err e) h l → Fed {A = B} R' R (xs ++ ys) (Err e) h l
      more R' R (ends.Fault f) fed = (fed.0, fed.1, λ S. subst (λ (X : Stream). R X (stream fed.0 (failed f))) (before-before xs ys S) (fed.2 (before ys S)))
      more R' R ends.Write fed = (fed.0, fed.1, λ S. let t = fed.2 (before ys S) in (t.0, subst (λ (X : Stream). R X t.0) (before-before xs ys S) t.1, t.2, t.3))
      more R' R ends.Memory fed = (fed.0, fed.1, λ S. let t = fed.2 (before ys S) in (t.0, subst (λ (X : Stream). R X t.0) (before-before xs ys S) t.1, t.2, t.3))
      more R' R ends.Done fed = absurd fed
      more R' R ends.Read fed = absurd fed
      more R' R ends.Stopped fed = absurd fed

  -- ---- outputs that are taken one by one

  taken_of : (taken : List Kept) (rec : Kept) (rest : List Kept) → records_of (taken ++ rec ∷ rest) ≡ (records_of taken ++ rec.numbers ∷ []) ++ records_of rest
  taken_of taken rec rest =
      map-append numbers_of taken (rec ∷ rest) ∙ sym (append_assoc (records_of taken) (rec.numbers ∷ []) (records_of rest))

  module _ (old mid : List (Step O)) (at : ℕ) (outs taken left rest : List Kept) (rec : Kept) (h k : Option (List ℕ))
      (split : outs ≡ taken ++ left) (next : left ≡ rec ∷ rest) (so_far : Feeds one funs {A = Unit {0}} old mid at (records_of taken) (Ok (tt {0})) h k) where
    -- one more went through
    pub outs_more : (new : List (Step O)) (l : Option (List ℕ)) (a : Unit {0}) (r : Result (Unit {0}) End) → r ≡ Ok a → Feeds one funs {A = Unit {0}} mid new at (rec.numbers ∷ []) r k l
        → (all : List Kept) × (outs ≡ all ++ rest) × Feeds one funs {A = Unit {0}} old new at (records_of all) (Ok (tt {0})) h l
    outs_more new l a r is feeds =
        let this : Feeds one funs {A = Unit {0}} mid new at (rec.numbers ∷ []) (Ok a) k l = subst (λ (q : Result (Unit {0}) End). Feeds one funs mid new at (rec.numbers ∷ []) q k l) is feeds in (
          taken ++ rec ∷ [],
          split ∙ ap (λ (t : List Kept). taken ++ t) next ∙ sym (append_assoc taken (rec ∷ []) rest),
          subst (λ (xs : List Record). Feeds one funs {A = Unit {0}} old new at xs (Ok (tt {0})) h l) (sym (map-append numbers_of taken (rec ∷ [])))
              (feeds_more (Unit {0}) (Unit {0}) old mid new at (records_of taken) (rec.numbers ∷ []) (tt {0}) (Ok (tt {0})) h k l so_far this),
        )

    -- one was stopped
    pub outs_stopped : (new : List (Step O)) (l : Option (List ℕ)) (e : End) (r r' : Result (Unit {0}) End) → r ≡ Err e → r' ≡ Err e → Feeds one funs {A = Unit {0}} mid new at (rec.numbers ∷ []) r k l
        → Feeds one funs {A = Unit {0}} old new at (records_of outs) r' h l
    outs_stopped new l e r r' is is' feeds =
        let this : Feeds one funs {A = Unit {0}} mid new at (rec.numbers ∷ []) (Err e) k l = subst (λ (q : Result (Unit {0}) End). Feeds one funs mid new at (rec.numbers ∷ []) q k l) is feeds in
        let both = feeds_more (Unit {0}) (Unit {0}) old mid new at (records_of taken) (rec.numbers ∷ []) (tt {0}) (Err e) h k l so_far this in
        let all = feeds_no_more (Unit {0}) old new at (records_of taken ++ rec.numbers ∷ []) (records_of rest) e h l both in
        let is_all : records_of outs ≡ (records_of taken ++ rec.numbers ∷ []) ++ records_of rest = ap records_of (split ∙ ap (λ (t : List Kept). taken ++ t) next) ∙ taken_of taken rec rest in
        subst (λ (xs : List Record). Feeds one funs {A = Unit {0}} old new at xs r' h l) (sym is_all) (subst (λ (q : Result (Unit {0}) End). Feeds one funs old new at ((records_of taken ++ rec.numbers ∷ []) ++ records_of rest) q h l) (sym is') all)

  -- none is left
  pub outs_all : (old new : List (Step O)) (at : ℕ) (outs taken left : List Kept) (h l : Option (List ℕ)) → outs ≡ taken ++ left → length left ≡ 0
      → Feeds one funs {A = Unit {0}} old new at (records_of taken) (Ok (tt {0})) h l → Feeds one funs {A = Unit {0}} old new at (records_of outs) (Ok (tt {0})) h l
  outs_all old new at outs taken [] h l split none feeds = subst (λ (xs : List Kept). Feeds one funs {A = Unit {0}} old new at (records_of xs) (Ok (tt {0})) h l) (sym (split ∙ append-nil taken)) feeds
  outs_all old new at outs taken (r ∷ left) h l split none feeds = absurd (omega (arith, none))

-- from the first step on
pub fed_at_start : {O : Type 0} (one : O → Record → Outcome → Type 0) (A : Type 0) (funs : Bor (List Fun)) (funs' : Bor (List Fun)) (old new : List (Step O)) (got : List Record) (r : Result A End) (h l : Option (List ℕ)) → funs ≡ funs'
    → Feeds one funs.now old new 0 got r h l → Fed (LineRuns one funs'.now new) (LineRuns one funs'.now old) got r h l
fed_at_start {O = O} one A funs funs' old new got r h l same feeds =
    let f = subst (λ (fs : Bor (List Fun)). Feeds one fs.now old new 0 got r h l) same feeds [] old refl refl in
    subst (λ (k : List (Step O)). Fed (LineRuns one funs'.now k) (LineRuns one funs'.now old) got r h l) (sym f.1) f.2
