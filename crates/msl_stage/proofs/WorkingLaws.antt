-- What a step has done so far: open, ended, and one step behind another.
use Rattle.std.proofs.Common.{◌≡◌, ◌≢◌, List, [], ◌∷◌, ◌++◌, Ok, Err, ap, sym, refl, subst, append_assoc, append-nil}
use Rattle.msl_base.specs.declared.fault.Fault.{Fault}
use Rattle.msl_base.specs.Streams.{Record, Outcome, Ending, done, failed, unread, cut, Stream, stream, before, SoundBy, Sound}
use Rattle.msl_base.proofs.StreamLaws.{sound_of}
use Rattle.msl_fun.specs.declared.funs.Fun.{Fun}
use Rattle.msl_program.specs.Filters.{stepped, flushed}
use Rattle.msl_stage.specs.declared.filter.FilterState.{FilterState}
use Rattle.msl_stage.specs.declared.step.Step.{Step}
use Rattle.msl_stage.specs.declared.step.Step.TheVariants.{One, Filter}
use Rattle.msl_stage.specs.Lines.{StepRuns, IsStep}
use Rattle.msl_stage.specs.Feeding.{GoesOn, StopsAt, IsBegun}
use Rattle.msl_stage.specs.Working.{continued_by, continued, HasEnded}
use Rattle.msl_stage.proofs.Steps.{IsNotDone, Behind, HasAll, PassesEnds, goes_more, stops_more, line_passes, step_total, one_goes, one_stops, one_ends, filter_goes, filter_stops, filter_flushes, filter_fails}

continued_before_by : (e : Ending) (X Y : List Record) (rest : Stream) → continued_by e (X ++ Y) rest ≡ before X (continued_by e Y rest)
continued_before_by done X Y rest = refl
continued_before_by (failed f) X Y rest = refl
continued_before_by unread X Y rest = refl
continued_before_by cut X Y rest = ap (λ (l : List Record). stream l rest.ending) (append_assoc X Y rest.records)

-- records before a stream that goes on
continued_before : (X : List Record) (S rest : Stream) → continued (before X S) rest ≡ before X (continued S rest)
continued_before X S rest = continued_before_by S.ending X S.records rest

-- ---- ends

module _ (R : Stream → Stream → Type 0) where
  -- what comes behind the end is dropped
  pub ended_drops : (got : List Record) (S sent : Stream) → HasEnded R (stream got cut) sent → HasEnded R (before got S) sent
  ended_drops got S sent h rest = subst (λ (X : Stream). Sound R X sent) (sym (continued_before got S rest)) (h (continued S rest))

  module _ (got sent : List Record) where
    -- given up, whatever comes
    pub begun_ended : (S : Stream) → IsBegun R got sent → HasEnded R (before got S) (stream sent cut)
    begun_ended S begun = ended_drops got S (stream sent cut) (λ rest.
        let t = begun rest in (t.2, t.0.ending, subst (λ (l : List Record). R (before got rest) (stream l t.0.ending)) t.3 t.1))

    -- no more comes
    pub whole_ended : (e : Ending) (end : Ending) → e ≢ cut → R (stream got e) (stream sent end) → HasEnded R (stream got e) (stream sent end)
    whole_ended done end not r rest = sound_of R (stream got done) (stream sent end) r
    whole_ended (failed f) end not r rest = sound_of R (stream got (failed f)) (stream sent end) r
    whole_ended unread end not r rest = sound_of R (stream got unread) (stream sent end) r
    whole_ended cut end not r rest = absurd (not refl)

module _ (R' R : Stream → Stream → Type 0) (got sent : List Record) (goes : GoesOn R' R got sent) where
  -- it gives these records at the end of its input
  pub goes_ended : (e end : Ending) (ys : List Record) → e ≢ cut → R' (stream [] e) (stream ys end) → HasEnded R (stream got e) (stream (sent ++ ys) end)
  goes_ended e end ys not r = whole_ended R got (sent ++ ys) e end not
      (subst (λ (l : List Record). R (stream l e) (stream (sent ++ ys) end)) (append-nil got) (goes (stream [] e) (stream ys end) r))

  -- given up, whatever comes
  pub goes_given_up : HasAll R' → (S : Stream) → HasEnded R (before got S) (stream sent cut)
  goes_given_up all S = begun_ended R got sent S (λ T. let t = all T in (before sent t.0, goes T t.0 t.1, t.0.records, refl))

  -- its end is the end of its input
  pub goes_passed : HasAll R' → PassesEnds R' → (e : Ending) → IsNotDone e → HasEnded R (stream got e) (stream sent e)
  goes_passed all passes done not = absurd not
  goes_passed all passes (failed f) not = subst (λ (l : List Record). HasEnded R (stream got (failed f)) (stream l (failed f))) (append-nil sent) (goes_ended (failed f) (failed f) [] (λ is. cc) (passes (failed f) tt))
  goes_passed all passes unread not = subst (λ (l : List Record). HasEnded R (stream got unread) (stream l unread)) (append-nil sent) (goes_ended unread unread [] (λ is. cc) (passes unread tt))
  goes_passed all passes cut not = subst (λ (l : List Record). HasEnded R (stream l cut) (stream sent cut)) (append-nil got) (goes_given_up all (stream [] cut))

-- ---- one step behind another

module _ (R Q : Stream → Stream → Type 0) where
  -- what is sound behind something that may be
  behind_sound : (X Z Y : Stream) → R X Z → Sound Q Z Y → Sound (Behind R Q) X Y
  behind_sound X Z Y r q = by_end Y.ending Y.records q
    where
      by_end : (e : Ending) (ys : List Record) → SoundBy e Q Z ys → SoundBy e (Behind R Q) X ys
      by_end done ys q = (Z, r, q)
      by_end (failed f) ys q = (Z, r, q)
      by_end unread ys q = (Z, r, q)
      by_end cut ys q = (q.0, q.1, (Z, r, q.2))

  -- both have ended
  pub then_ended : (X Z Y : Stream) → HasEnded R X Z → HasEnded Q Z Y → HasEnded (Behind R Q) X Y
  then_ended X Z Y h k rest = by_end Z.ending Z.records (h rest) k
    where
      by_end : (e : Ending) (zs : List Record) → SoundBy e R (continued X rest) zs → HasEnded Q (stream zs e) Y → Sound (Behind R Q) (continued X rest) Y
      by_end done zs r k = behind_sound (continued X rest) (stream zs done) Y r (k rest)
      by_end (failed f) zs r k = behind_sound (continued X rest) (stream zs (failed f)) Y r (k rest)
      by_end unread zs r k = behind_sound (continued X rest) (stream zs unread) Y r (k rest)
      by_end cut zs r k = behind_sound (continued X rest) (stream (zs ++ r.0) r.1) Y r.2 (k (stream r.0 r.1))

  -- the first goes on, the one behind it has ended
  pub then_ended_early : (R' : Stream → Stream → Type 0) (got made : List Record) (S Y : Stream) → HasAll R' → GoesOn R' R got made → HasEnded Q (stream made cut) Y → HasEnded (Behind R Q) (before got S) Y
  then_ended_early R' got made S Y all goes k = ended_drops (Behind R Q) got S Y (λ rest.
      let z = all rest in behind_sound (before got rest) (before made z.0) Y (goes rest z.0 z.1) (k z.0))

-- behind the last step
pub none_ended : (X : Stream) → HasEnded (λ X Y. Y ≡ X) X X
none_ended X rest = by_end X.ending X.records
  where
    by_end : (e : Ending) (xs : List Record) → SoundBy e (λ X Y. Y ≡ X) (continued_by e xs rest) xs
    by_end done xs = refl
    by_end (failed f) xs = refl
    by_end unread xs = refl
    by_end cut xs = (rest.records, rest.ending, refl)

-- ---- what each kind of step has done

module _ {O : Type 0} (one : O → Record → Outcome → Type 0) (total : (w : O) (x : Record) → (r : Outcome) × one w x r) (funs : List Fun) where
  abbrev Runs : Step O → Stream → Stream → Type 0
  Runs = StepRuns one funs

  step_passes : (s : Step O) → PassesEnds (Runs s)
  step_passes s e not = let h = line_passes one total funs (s ∷ []) e not in subst (Runs s (stream [] e)) (sym h.2) h.1

  is_not_done : (e : Ending) → e ≢ done → IsNotDone e
  is_not_done done not = absurd (not refl)
  is_not_done (failed f) not = tt
  is_not_done unread not = tt
  is_not_done cut not = tt

  module _ (s' s : Step O) (is : IsStep one funs s') (got sent : List Record) (goes : GoesOn (Runs s') (Runs s) got sent) where
    pub step_passed : (e : Ending) → e ≢ done → HasEnded (Runs s) (stream got e) (stream sent e)
    step_passed e not = goes_passed (Runs s') (Runs s) got sent goes (step_total one total funs s' is) (step_passes s') e (is_not_done e not)

    pub step_given_up : (more : Stream) → HasEnded (Runs s) (before got more) (stream sent cut)
    step_given_up more = goes_given_up (Runs s') (Runs s) got sent goes (step_total one total funs s' is) more

  -- a fault at a record
  stopped : (s' s : Step O) (got sent : List Record) (x : Record) (f : Fault) → GoesOn (Runs s') (Runs s) got sent → StopsAt (Runs s') (x ∷ []) [] f
      → HasEnded (Runs s) (stream (got ++ x ∷ []) cut) (stream sent (failed f))
  stopped s' s got sent x f goes stops = subst (λ (l : List Record). StopsAt (Runs s) (got ++ x ∷ []) l f) (append-nil sent)
      (stops_more (Runs s') (Runs s') (Runs s) got (x ∷ []) sent [] goes f stops)

  module _ (w : O) (got sent : List Record) (goes : GoesOn (Runs (One w)) (Runs (One w)) got sent) where
    pub one_record : (x y : Record) → one w x (Ok y) → GoesOn (Runs (One w)) (Runs (One w)) (got ++ x ∷ []) (sent ++ y ∷ [])
    one_record x y is = goes_more (Runs (One w)) (Runs (One w)) (Runs (One w)) got (x ∷ []) sent (y ∷ []) goes (one_goes one total funs w x y is)

    pub one_fault : (x : Record) (f : Fault) → one w x (Err f) → HasEnded (Runs (One w)) (stream (got ++ x ∷ []) cut) (stream sent (failed f))
    one_fault x f is = stopped (One w) (One w) got sent x f goes (one_stops one total funs w x f is)

    pub one_end : (e : Ending) → HasEnded (Runs (One w)) (stream got e) (stream sent e)
    one_end done = subst (λ (l : List Record). HasEnded (Runs (One w)) (stream got done) (stream l done)) (append-nil sent)
        (goes_ended (Runs (One w)) (Runs (One w)) got sent goes done done [] (λ is. cc) (one_ends one total funs w))
    one_end (failed f) = step_passed (One w) (One w) tt got sent goes (failed f) (λ is. cc)
    one_end unread = step_passed (One w) (One w) tt got sent goes unread (λ is. cc)
    one_end cut = step_passed (One w) (One w) tt got sent goes cut (λ is. cc)

  module _ (f s : FilterState) (got sent : List Record) (goes : GoesOn (Runs (Filter f)) (Runs (Filter s)) got sent) where
    pub filter_record : (f' : FilterState) (x : Record) (ys : List Record) → f'.spec ≡ f.spec → f'.stage ≡ f.stage → stepped funs f.spec.now f.stage f.state x ≡ Ok (ys, f'.state)
        → GoesOn (Runs (Filter f')) (Runs (Filter s)) (got ++ x ∷ []) (sent ++ ys)
    filter_record f' x ys spec stage is =
        let moved : record f { state = f'.state } ≡ f' = λ i. record { spec = sym spec i; stage = sym stage i; state = f'.state } in
        goes_more (Runs (Filter f')) (Runs (Filter f)) (Runs (Filter s)) got (x ∷ []) sent ys goes
        (subst (λ (q : FilterState). GoesOn (Runs (Filter q)) (Runs (Filter f)) (x ∷ []) ys) moved (filter_goes one total funs f x f'.state ys is))

    pub filter_fault : (x : Record) (why : Fault) → stepped funs f.spec.now f.stage f.state x ≡ Err why → HasEnded (Runs (Filter s)) (stream (got ++ x ∷ []) cut) (stream sent (failed why))
    filter_fault x why is = stopped (Filter f) (Filter s) got sent x why goes (filter_stops one total funs f x why is)

    pub filter_end : (ys : List Record) → flushed funs f.spec.now f.stage f.state ≡ Ok ys → HasEnded (Runs (Filter s)) (stream got done) (stream (sent ++ ys) done)
    filter_end ys is = goes_ended (Runs (Filter f)) (Runs (Filter s)) got sent goes done done ys (λ q. cc) (filter_flushes one total funs f ys is)

    pub filter_end_fault : (why : Fault) → flushed funs f.spec.now f.stage f.state ≡ Err why → HasEnded (Runs (Filter s)) (stream got done) (stream sent (failed why))
    filter_end_fault why is = subst (λ (l : List Record). HasEnded (Runs (Filter s)) (stream got done) (stream l (failed why))) (append-nil sent)
        (goes_ended (Runs (Filter f)) (Runs (Filter s)) got sent goes done (failed why) [] (λ q. cc) (filter_fails one total funs f why is))
