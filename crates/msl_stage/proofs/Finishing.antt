-- The end of a whole input, step by step.
use Rattle.std.proofs.Common.{◌≡◌, ℕ, ◌+◌, ◌<◌, List, [], ◌∷◌, ◌++◌, length, slice_index_or, Option, Ok, Err, Result, ap, sym, refl, ◌∙◌, subst, append_assoc, append-nil}
use Rattle.std.specs.Io.KnownBytes.{Appends}
use Rattle.std.proofs.KnownBytes.{Appends-kept, Appends-nil, Appends-trans}
use Rattle.std.proofs.lemmas.List.{length-append}
use Rattle.msl_base.specs.Records.{Kept}
use Rattle.msl_base.specs.declared.answer.Halt.{Halt}
use Rattle.msl_base.specs.declared.answer.Halt.TheVariants as halt
use Rattle.msl_base.specs.declared.fault.Fault.{Fault}
use Rattle.msl_base.specs.declared.fault.End.{End}
use Rattle.msl_base.specs.declared.fault.End.TheVariants as ends
use Rattle.msl_base.specs.Streams.{Record, Outcome, Ending, done, failed, Stream, stream, before, Pointwise, Unordered}
use Rattle.msl_fun.specs.declared.funs.Fun.{Fun}
use Rattle.msl_io.specs.Text.{text}
use Rattle.msl_stage.specs.declared.step.Step.{Step}
use Rattle.msl_stage.specs.declared.step.Step.TheVariants.{One, Filter, Farm}
use Rattle.msl_stage.specs.Answers.{Gives, records_of}
use Rattle.msl_stage.specs.Lines.{AnyOf, StepRuns, LineRuns, AreSteps, flush_of}
use Rattle.msl_stage.specs.Feeding.{Fed, Spreads, Finished, Finishes}
use Rattle.msl_stage.proofs.Steps.{text-append, Behind, line_total, line_passes, one_ends, farm_ends, filter_flushes, filter_fails}
use Rattle.msl_stage.proofs.Feeding.{no_more, begins_at, are_back}

ok_is_no_err : (A : Type 0) (a : A) (e : End) (r : Result A End) → r ≡ Ok a → r ≡ Err e → ⊥
ok_is_no_err A a e r p q = cc

same_err : (A : Type 0) (e e' : End) (r : Result A End) → r ≡ Err e → r ≡ Err e' → e ≡ e'
same_err A e e' r p q = cc

ok_is : (ys zs : List Record) (r : Result (List Record) Fault) → r ≡ Ok ys → r ≡ Ok zs → ys ≡ zs
ok_is ys zs r p q = cc

-- records before an end
ended : (R : Stream → Stream → Type 0) (ys : List Record) (e : Ending) (T : Stream) → R (before ys (stream [] e)) T → R (stream ys e) T
ended R ys e T = subst (λ (xs : List Record). R (stream xs e) T) (append-nil ys)

-- a step that gives these records at the end, which go through the steps behind it, whose input then ends too
then_finished : (A B : Type 0) (R Q' Q : Stream → Stream → Type 0) (ys : List Record) (a : A) (h k l : Option (List ℕ)) → R (stream [] done) (stream ys done) → Fed Q' Q ys (Ok a) h k
    → (r : Result B End) → Finished Q' r k l → Finished (Behind R Q) r h l
then_finished A B R Q' Q ys a h k l gives fed (Ok b) fin = (
  fed.0 ++ fin.0,
  subst (Appends h l) (sym (text-append fed.0 fin.0)) (Appends-trans h k l (text fed.0) (text fin.0) fed.1 fin.1),
  (stream ys done, gives, ended Q ys done (stream (fed.0 ++ fin.0) done) (fed.2 (stream [] done) (stream fin.0 done) fin.2)),
)
then_finished A B R Q' Q ys a h k l gives fed (Err (ends.Fault f)) fin = (
  fed.0 ++ fin.0,
  subst (Appends h l) (sym (text-append fed.0 fin.0)) (Appends-trans h k l (text fed.0) (text fin.0) fed.1 fin.1),
  (stream ys done, gives, ended Q ys done (stream (fed.0 ++ fin.0) (failed f)) (fed.2 (stream [] done) (stream fin.0 (failed f)) fin.2)),
)
then_finished A B R Q' Q ys a h k l gives fed (Err ends.Write) fin = (
  text fed.0 ++ fin.0,
  Appends-trans h k l (text fed.0) fin.0 fed.1 fin.1,
  before fed.0 fin.2,
  (stream ys done, gives, ended Q ys done (before fed.0 fin.2) (fed.2 (stream [] done) fin.2 fin.3)),
  fin.4,
  text-append fed.0 fin.2.records ∙ ap (λ (t : List ℕ). text fed.0 ++ t) fin.5 ∙ sym (append_assoc (text fed.0) fin.0 fin.4),
)
then_finished A B R Q' Q ys a h k l gives fed (Err ends.Memory) fin = (
  fed.0 ++ fin.0,
  subst (Appends h l) (sym (text-append fed.0 fin.0)) (Appends-trans h k l (text fed.0) (text fin.0) fed.1 fin.1),
  before fed.0 fin.2,
  (stream ys done, gives, ended Q ys done (before fed.0 fin.2) (fed.2 (stream [] done) fin.2 fin.3)),
  fin.4,
  ap (λ (t : List Record). fed.0 ++ t) fin.5 ∙ sym (append_assoc fed.0 fin.0 fin.4),
)
then_finished A B R Q' Q ys a h k l gives fed (Err ends.Done) fin = absurd fin
then_finished A B R Q' Q ys a h k l gives fed (Err ends.Read) fin = absurd fin
then_finished A B R Q' Q ys a h k l gives fed (Err ends.Stopped) fin = absurd fin

-- they are stopped in the steps behind it
then_stopped : (A B : Type 0) (R Q' Q : Stream → Stream → Type 0) (ys : List Record) (h l : Option (List ℕ)) → R (stream [] done) (stream ys done)
    → (e : End) → Fed {A = A} Q' Q ys (Err e) h l → Finished {A = B} (Behind R Q) (Err e) h l
then_stopped A B R Q' Q ys h l gives (ends.Fault f) fed = (fed.0, fed.1, (stream ys done, gives, ended Q ys done (stream fed.0 (failed f)) (fed.2 (stream [] done))))
then_stopped A B R Q' Q ys h l gives ends.Write fed =
    let t = fed.2 (stream [] done) in (fed.0, fed.1, t.0, (stream ys done, gives, ended Q ys done t.0 t.1), t.2, t.3)
then_stopped A B R Q' Q ys h l gives ends.Memory fed =
    let t = fed.2 (stream [] done) in (fed.0, fed.1, t.0, (stream ys done, gives, ended Q ys done t.0 t.1), t.2, t.3)
then_stopped A B R Q' Q ys h l gives ends.Done fed = absurd fed
then_stopped A B R Q' Q ys h l gives ends.Read fed = absurd fed
then_stopped A B R Q' Q ys h l gives ends.Stopped fed = absurd fed

module _ {O : Type 0} (one : O → Record → Outcome → Type 0) (total : (w : O) (x : Record) → (r : Outcome) × one w x r) (funs : List Fun) where
  -- behind the last step
  pub finishes_last : (A : Type 0) (old : List (Step O)) (at : ℕ) (a : A) (h : Option (List ℕ)) → at ≡ length old → Finishes one funs old at (Ok a) h h
  finishes_last A old at a h last front back split long =
      let none = no_more front back old split (long ∙ last) in
      ([], Appends-nil h, subst (λ (ss : List (Step O)). LineRuns one funs ss (stream [] done) (stream [] done)) (sym none) refl)

  gives_ending : (s : Step O) (ys : List Record) → flush_of funs s ≡ Ok ys → StepRuns one funs s (stream [] done) (stream ys done)
  gives_ending (One w) ys is = subst (λ (q : List Record). Pointwise (one w) (stream [] done) (stream q done)) (ok_is [] ys (Ok []) refl is) (one_ends one total funs w)
  gives_ending (Filter f) ys is = filter_flushes one total funs f ys is
  gives_ending (Farm ws) ys is = subst (λ (q : List Record). Unordered (AnyOf one ws) (stream [] done) (stream q done)) (ok_is [] ys (Ok []) refl is) (farm_ends one total funs ws)

  fails_ending : (s : Step O) (why : Fault) → flush_of funs s ≡ Err why → StepRuns one funs s (stream [] done) (stream [] (failed why))
  fails_ending (One w) why is = cc
  fails_ending (Filter f) why is = filter_fails one total funs f why is
  fails_ending (Farm ws) why is = cc

  module _ (old new : List (Step O)) (at : ℕ) (s : Step O) (lt : at < length old) (here : s ≡ slice_index_or old at s) where
    -- a step whose outputs went through
    pub finishes_flush : (A B : Type 0) (made : Result (List Kept) Halt) (a : A) (r : Result B End) (h k l : Option (List ℕ)) → Gives (flush_of funs s) made
        → Spreads one funs old new (at + 1) made (Ok a) h k → Finishes one funs new (at + 1) r k l → Finishes one funs old at r h l
    finishes_flush A B (Ok outs) a r h k l gives spreads fin front back split long =
        let b = begins_at old front back at s lt here split long in
        let halves : old ≡ (front ++ s ∷ []) ++ b.0 = split ∙ ap (λ (q : List (Step O)). front ++ q) b.1 ∙ sym (append_assoc front (s ∷ []) b.0) in
        let longer : length (front ++ s ∷ []) ≡ at + 1 = length-append front (s ∷ []) ∙ ap (λ (n : ℕ). n + 1) long in
        let fed = spreads (front ++ s ∷ []) b.0 halves longer in
        subst (λ (q : List (Step O)). Finished (LineRuns one funs q) r h l) (sym b.1)
        (then_finished A B (StepRuns one funs s) (LineRuns one funs fed.0) (LineRuns one funs b.0) (records_of outs) a h k l (gives_ending s (records_of outs) gives) fed.2 r (fin (front ++ s ∷ []) fed.0 fed.1 longer))
    finishes_flush A B (Err (halt.Fault why)) a r h k l gives spreads fin front back split long = absurd (ok_is_no_err A a (ends.Fault why) (Ok a) refl spreads.0)
    finishes_flush A B (Err halt.NoMemory) a r h k l gives spreads fin front back split long = absurd (ok_is_no_err A a ends.Memory (Ok a) refl spreads.0)

    -- one that has none, or whose outputs were stopped
    pub finishes_stopped : (A B : Type 0) (made : Result (List Kept) Halt) (e : End) (r : Result B End) (h l : Option (List ℕ)) → AreSteps one funs old → r ≡ Err e → Gives (flush_of funs s) made
        → Spreads one funs {A = A} old new (at + 1) made (Err e) h l → Finishes one funs {A = B} old at r h l
    finishes_stopped A B (Ok outs) e r h l are is gives spreads front back split long =
        let b = begins_at old front back at s lt here split long in
        let halves : old ≡ (front ++ s ∷ []) ++ b.0 = split ∙ ap (λ (q : List (Step O)). front ++ q) b.1 ∙ sym (append_assoc front (s ∷ []) b.0) in
        let longer : length (front ++ s ∷ []) ≡ at + 1 = length-append front (s ∷ []) ∙ ap (λ (n : ℕ). n + 1) long in
        let fed = spreads (front ++ s ∷ []) b.0 halves longer in
        subst (λ (q : List (Step O)). Finished (LineRuns one funs q) r h l) (sym b.1)
        (subst (λ (q : Result B End). Finished (LineRuns one funs (s ∷ b.0)) q h l) (sym is)
        (then_stopped A B (StepRuns one funs s) (LineRuns one funs fed.0) (LineRuns one funs b.0) (records_of outs) h l (gives_ending s (records_of outs) gives) e fed.2))
    finishes_stopped A B (Err (halt.Fault why)) e r h l are is gives spreads front back split long =
        let b = begins_at old front back at s lt here split long in
        subst (λ (q : List (Step O)). Finished (LineRuns one funs q) r h l) (sym b.1)
        (subst (λ (q : Result B End). Finished (LineRuns one funs (s ∷ b.0)) q h l) (sym (is ∙ ap Err (same_err A e (ends.Fault why) (Err e) refl spreads.0)))
        ([], Appends-kept h h l [] (Appends-nil h) spreads.2, (stream [] (failed why), fails_ending s why gives, line_passes one total funs b.0 (failed why) tt)))
    finishes_stopped A B (Err halt.NoMemory) e r h l are is gives spreads front back split long =
        let behind = are_back one total funs front back (subst (AreSteps one funs) split are) in
        let t = line_total one total funs back behind (stream [] done) in
        subst (λ (q : Result B End). Finished (LineRuns one funs back) q h l) (sym (is ∙ ap Err (same_err A e ends.Memory (Err e) refl spreads.0)))
        ([], Appends-kept h h l [] (Appends-nil h) spreads.2, t.0, t.1, t.0.records, refl)
