-- The endings of a run, over a source and a sink that may tell their bytes.
use Rattle.std.proofs.Common.{arith, ◌≡◌, ℕ, ◌+◌, List, [], ◌∷◌, ◌++◌, ap, sym, refl, ◌∙◌, subst, Option, Some, None, Ok, Err, Result, append_assoc, append-nil, inl, inr}
use Rattle.std.specs.Io.KnownBytes.{Appends, Keeps}
use Rattle.std.proofs.KnownBytes.{Appends-kept, Appends-nil, Appends-trans}
use Rattle.msl_base.specs.declared.fault.End.{End}
use Rattle.msl_base.specs.declared.fault.End.TheVariants as ends
use Rattle.msl_base.specs.declared.rec.Rec.{Rec}
use Rattle.msl_base.specs.Streams.{Record, Ending, done, failed, unread, Stream, stream, before}
use Rattle.msl_io.specs.Known.{Told}
use Rattle.msl_io.specs.Lines.{reads, part}
use Rattle.msl_io.specs.Reader.{Reader, after_of, Counts, MayGoOn, IsEndOf}
use Rattle.msl_io.specs.Text.{text}
use Rattle.msl_io.specs.declared.lines.Line.TheVariants as line
use Rattle.msl_io.specs.declared.lines.Stop.{Stop}
use Rattle.msl_io.proofs.Told.{told_chain, told_map, told_same}
use Rattle.msl_stage.specs.Endings.{Ran, RanTold, Grew, Causes, IsEnding}
use Rattle.msl_stage.specs.Endings.{ends as ends_of}
use Rattle.msl_stage.specs.Feeding.{GoesOn, Fed, FeedCause, Finished}
use Rattle.msl_stage.specs.Reading.{StreamedTold, Takes, TakeCause, IsOver, HasRead, BeginsWith, StopsSo, ClosedWith, Flushed}
use Rattle.msl_stage.proofs.Steps.{text-append, before-before, HasAll, PassesEnds, goes_more, goes_none}
use Rattle.msl_stage.proofs.Reading.{by_going, reads_from, begins_next, reads_next, gives_left, over_left, ends_left, at_end_left, over_at_end, stops_so}

-- ---- one relation behind another, from the records so far

module _ (R' R : Stream → Stream → Type 0) (input left : List ℕ) (records made : List Record) (goes : GoesOn R' R records made) where
  -- the table's entry, and that for a fault of writing
  abbrev pub Both : List ℕ → End → Type 0
  Both written e = Ran R input left written e × Ran R input left written ends.Write

  -- what follows the records may be made into something
  begun : HasAll R' → (b : BeginsWith input records) → (T : Stream) × R (reads input) (before made T)
  begun all b = let t = all b.0 in (t.0, subst (λ (X : Stream). R X (before made t.0)) (sym b.1) (goes b.0 t.0 t.1))

  ran_memory : HasAll R' → BeginsWith input records → Ran R input left (text made) ends.Memory
  ran_memory all b = let t = begun all b in (made, t.0.records, t.0.ending, t.1, refl)

  ran_write : HasAll R' → BeginsWith input records → Ran R input left (text made) ends.Write
  ran_write all b = let t = begun all b in (made ++ t.0.records, t.0.ending, text t.0.records, t.1, text-append made t.0.records)

  -- an end that all steps pass on
  at_end : (e : Ending) (X : Stream) → R' (stream [] e) (stream [] e) → X ≡ stream records e → R X (stream made e)
  at_end e X passes is =
      subst (λ (Y : Stream). R Y (stream made e)) (ap (λ (l : List Record). stream l e) (append-nil records) ∙ sym is)
      (subst (λ (l : List Record). R (before records (stream [] e)) (stream l e)) (append-nil made) (goes (stream [] e) (stream [] e) passes))

  -- the input ended, and not as a whole
  pub ran_closed : HasAll R' → PassesEnds R' → (e : End) → StopsSo input left records e → Both (text made) e
  ran_closed all passes ends.Done c = absurd c
  ran_closed all passes (ends.Fault f) c =
      let m = at_end (failed f) (reads input) (passes (failed f) tt) c in ((made, m, refl), (made, failed f, [], m, sym (append-nil (text made))))
  ran_closed all passes ends.Read c = (
    (made, c.1.0, c.1.1, at_end unread (part c.1.0) (passes unread tt) c.1.2, refl),
    ran_write all c.0,
  )
  ran_closed all passes ends.Memory c = (ran_memory all c, ran_write all c)
  ran_closed all passes ends.Write c = absurd c
  ran_closed all passes ends.Stopped c = absurd c

  -- the records so far, and what comes of the end of the whole input
  whole : (T : Stream) → R' (stream [] done) T → IsOver input left records → R (reads input) (before made T)
  whole T r over =
      subst (λ (Y : Stream). R Y (before made T)) (ap (λ (l : List Record). stream l done) (append-nil records) ∙ sym over.0) (goes (stream [] done) T r)

  -- the input ended as a whole, and this came of its end
  pub ran_whole : (h l : Option (List ℕ)) (e : End) → IsOver input left records → ClosedWith R' e h l → Grew h l (λ written. Both (text made ++ written) e)
  ran_whole h l ends.Done over c =
      let m = whole (stream c.0 done) c.2 over in
      (text c.0, c.1, ((made ++ c.0, m, sym (text-append made c.0), over.1), (made ++ c.0, done, [], m, text-append made c.0 ∙ sym (append-nil (text made ++ text c.0)))))
  ran_whole h l (ends.Fault f) over c =
      let m = whole (stream c.0 (failed f)) c.2 over in
      (text c.0, c.1, ((made ++ c.0, m, sym (text-append made c.0)), (made ++ c.0, failed f, [], m, text-append made c.0 ∙ sym (append-nil (text made ++ text c.0)))))
  ran_whole h l ends.Write over c =
      let m = whole c.2 c.3 over in
      let w : Ran R input left (text made ++ c.0) ends.Write = (made ++ c.2.records, c.2.ending, c.4, m, text-append made c.2.records ∙ ap (λ (t : List ℕ). text made ++ t) c.5 ∙ sym (append_assoc (text made) c.0 c.4)) in
      (c.0, c.1, (w, w))
  ran_whole h l ends.Memory over c =
      let m = whole c.2 c.3 over in
      let all : made ++ c.2.records ≡ (made ++ c.0) ++ c.4 = ap (λ (t : List Record). made ++ t) c.5 ∙ sym (append_assoc made c.0 c.4) in (
        text c.0,
        c.1,
        (
          (made ++ c.0, c.4, c.2.ending, subst (λ (t : List Record). R (reads input) (stream t c.2.ending)) all m, sym (text-append made c.0)),
          (made ++ c.2.records, c.2.ending, text c.4, m, ap text all ∙ text-append (made ++ c.0) c.4 ∙ ap (λ (t : List ℕ). t ++ text c.4) (text-append made c.0)),
        ),
      )
  ran_whole h l ends.Read over c = absurd c
  ran_whole h l ends.Stopped over c = absurd c

  -- the next record, and what was made of it
  next : (x : Record) (T : Stream) (b : BeginsWith input (records ++ x ∷ [])) → R' (before (x ∷ []) b.0) T → R (reads input) (before made T)
  next x T b r = subst (λ (X : Stream). R X (before made T)) (before-before records (x ∷ []) b.0 ∙ sym b.1) (goes (before (x ∷ []) b.0) T r)

  -- the line stopped at the next record
  pub ran_stopped : (A : Type 0) (R'' : Stream → Stream → Type 0) (x : Record) (h l : Option (List ℕ)) (e : End) → BeginsWith input (records ++ x ∷ []) → Fed {A = A} R'' R' (x ∷ []) (Err e) h l → Grew h l (λ written. Both (text made ++ written) e)
  ran_stopped A R'' x h l (ends.Fault f) b fed =
      let m = next x (stream fed.0 (failed f)) b (fed.2 b.0) in
      (text fed.0, fed.1, ((made ++ fed.0, m, sym (text-append made fed.0)), (made ++ fed.0, failed f, [], m, text-append made fed.0 ∙ sym (append-nil (text made ++ text fed.0)))))
  ran_stopped A R'' x h l ends.Write b fed =
      let t = fed.2 b.0 in
      let m = next x t.0 b t.1 in
      let w : Ran R input left (text made ++ fed.0) ends.Write = (made ++ t.0.records, t.0.ending, t.2, m, text-append made t.0.records ∙ ap (λ (q : List ℕ). text made ++ q) t.3 ∙ sym (append_assoc (text made) fed.0 t.2)) in
      (fed.0, fed.1, (w, w))
  ran_stopped A R'' x h l ends.Memory b fed =
      let t = fed.2 b.0 in
      let m = next x t.0 b t.1 in
      let all : made ++ t.0.records ≡ (made ++ fed.0) ++ t.2 = ap (λ (q : List Record). made ++ q) t.3 ∙ sym (append_assoc made fed.0 t.2) in (
        text fed.0,
        fed.1,
        (
          (made ++ fed.0, t.2, t.0.ending, subst (λ (q : List Record). R (reads input) (stream q t.0.ending)) all m, sym (text-append made fed.0)),
          (made ++ t.0.records, t.0.ending, text t.2, m, ap text all ∙ text-append (made ++ fed.0) t.2 ∙ ap (λ (q : List ℕ). q ++ text t.2) (text-append made fed.0)),
        ),
      )
  ran_stopped A R'' x h l ends.Done b fed = absurd fed
  ran_stopped A R'' x h l ends.Read b fed = absurd fed
  ran_stopped A R'' x h l ends.Stopped b fed = absurd fed

-- ---- where a run stands

-- what a line has made of the records so far, from R at the beginning to R' now
abbrev pub StandsAt : (Stream → Stream → Type 0) → (Stream → Stream → Type 0) → List ℕ → List ℕ → List ℕ → List ℕ → ℕ → Option Stop → Type 0
StandsAt R' R input bytes left written n stopped =
    (records : List Record) × (made : List Record) × HasRead input bytes left records n stopped × GoesOn R' R records made × (written ≡ text made)

-- a: left at the beginning, b: before the answer, c: behind it; h: held at the beginning, k: before the step, l: behind it
module _ (R' R : Stream → Stream → Type 0) (a b c h k l : Option (List ℕ)) (old new : Reader) where
  abbrev pub Stands : Option Stop → Type 0
  Stands stopped = Told a b (λ input left. Grew h k (λ written. StandsAt R' R input (old.rest ++ left) left written (old.read + 1) stopped))

  abbrev pub LeftBehind : End → Type 0
  LeftBehind e = Told a c (λ input rest. IsEndOf rest input × Grew h l (λ written. Ran R input rest written e × Ran R input rest written ends.Write))

  -- the sink grew by more
  grown : (written more : List ℕ) (made : List Record) (P : List ℕ → Type 0) → Appends h k written → written ≡ text made → Grew k l (λ w. P (text made ++ w)) → Grew h l P
  grown written more made P texts is g = (written ++ g.0, Appends-trans h k l written g.0 texts g.1, subst P (ap (λ (t : List ℕ). t ++ g.0) (sym is)) g.2)

  -- the input stops
  pub told_closed : HasAll R' → PassesEnds R' → (stopped : Option Stop) (e : End) → l ≡ k → Stands stopped → Takes stopped b c old new (Err e) → LeftBehind e
  told_closed all passes None e same stands takes =
      told_chain a b c stands takes (λ x y z s r. (
        ends_left x (old.rest ++ y) s.2.0 (old.read + 1) (after_of new z) e s.2.2 r,
        subst (λ (m : Option (List ℕ)). Grew h m (λ w. Ran R x z w e × Ran R x z w ends.Write)) (sym same) (
          s.0,
          s.1,
          subst (λ w. Ran R x z w e × Ran R x z w ends.Write) (sym s.2.4)
              (ran_closed R' R x z s.2.0 s.2.1 s.2.3 all passes e (stops_so x (old.rest ++ y) s.2.0 (old.read + 1) (after_of new z) e s.2.2 r)),
        ),
      ))
  told_closed all passes (Some s) e same stands takes = absurd takes

  -- the line stopped at a record
  pub told_stopped : (A : Type 0) (R'' : Stream → Stream → Type 0) (stopped : Option Stop) (rec : Rec) (e : End) → Stands stopped → Takes stopped b c old new (Ok (Some rec)) → Fed {A = A} R'' R' (rec.numbers ∷ []) (Err e) k l → LeftBehind e
  told_stopped A R'' None rec e stands takes fed =
      told_chain a b c stands takes.0 (λ x y z s r. (
        gives_left x (old.rest ++ y) new.rest z s.2.0 (old.read + 1) new.stopped rec.numbers s.2.2 r,
        grown s.0 [] s.2.1 (λ w. Ran R x z w e × Ran R x z w ends.Write) s.1 s.2.4
            (ran_stopped R' R x z s.2.0 s.2.1 s.2.3 A R'' rec.numbers k l e (begins_next x (old.rest ++ y) s.2.0 (old.read + 1) (after_of new z) rec.numbers s.2.2 r) fed),
      ))
  told_stopped A R'' (Some s) rec e stands takes fed = absurd takes

  -- a record went through
  pub told_next : (A : Type 0) (R'' : Stream → Stream → Type 0) (stopped : Option Stop) (rec : Rec) (o : A) → Stands stopped → Takes stopped b c old new (Ok (Some rec)) → Fed {A = A} R'' R' (rec.numbers ∷ []) (Ok o) k l
      → Told a c (λ input left. Grew h l (λ written. StandsAt R'' R input (new.rest ++ left) left written (new.read + 1) new.stopped))
  told_next A R'' None rec o stands takes fed =
      subst (λ (i : ℕ). Told a c (λ input left. Grew h l (λ written. StandsAt R'' R input (new.rest ++ left) left written (i + 1) new.stopped))) (sym takes.1.0)
      (told_chain a b c stands takes.0 (λ x y z s r. (
        s.0 ++ text fed.0,
        Appends-trans h k l s.0 (text fed.0) s.1 fed.1,
        (
          s.2.0 ++ rec.numbers ∷ [],
          s.2.1 ++ fed.0,
          reads_next x (old.rest ++ y) new.rest z s.2.0 (old.read + 1) new.stopped rec.numbers s.2.2 r,
          goes_more R'' R' R s.2.0 (rec.numbers ∷ []) s.2.1 fed.0 s.2.3 fed.2,
          ap (λ (t : List ℕ). t ++ text fed.0) s.2.4 ∙ sym (text-append s.2.1 fed.0),
        ),
      )))
  told_next A R'' (Some s) rec o stands takes fed = absurd takes

  -- the input ended as a whole
  pub told_whole : (stopped : Option Stop) (e : End) → Stands stopped → MayGoOn stopped → Takes stopped b c old new (Ok None) → ClosedWith R' e k l → LeftBehind e
  told_whole stopped e stands going takes closed = by_going (λ stopped. Stands stopped → Takes stopped b c old new (Ok None) → LeftBehind e)
      (λ stands takes. told_chain a b c stands takes (λ x y z s r. (
        at_end_left x (old.rest ++ y) s.2.0 (old.read + 1) (after_of new z) s.2.2 r,
        grown s.0 [] s.2.1 (λ w. Ran R x z w e × Ran R x z w ends.Write) s.1 s.2.4
            (ran_whole R' R x z s.2.0 s.2.1 s.2.3 k l e (over_at_end x (old.rest ++ y) s.2.0 (old.read + 1) (after_of new z) s.2.2 r) closed),
      )))
      (λ stands same. subst (λ (d : Option (List ℕ)). Told a d (λ input rest. IsEndOf rest input × Grew h l (λ written. Ran R input rest written e × Ran R input rest written ends.Write))) (sym same)
      (told_map a b stands (λ x y s. (
        over_left x y s.2.0 s.2.2,
        grown s.0 [] s.2.1 (λ w. Ran R x y w e × Ran R x y w ends.Write) s.1 s.2.4 (ran_whole R' R x y s.2.0 s.2.1 s.2.3 k l e s.2.2 closed),
      ))))
      stopped going stands takes

-- the reader counts what it gave, and may go on
pub counted : (stopped : Option Stop) (b c : Option (List ℕ)) (old new : Reader) (rec : Rec) → Takes stopped b c old new (Ok (Some rec)) → Counts old new (line.Rec rec)
counted None b c old new rec takes = takes.1
counted (Some s) b c old new rec takes = absurd takes

-- nothing was read so far
pub told_from : (R : Stream → Stream → Type 0) (a h : Option (List ℕ)) → Told a a (λ input left. Grew h h (λ written. StandsAt R R input left left written 1 None))
told_from R a h = told_same _ a (λ x. ([], Appends-nil h, ([], [], reads_from x, goes_none R, refl)))

-- ---- what a sink grew by

abbrev pub Grows : Option (List ℕ) → Option (List ℕ) → Type 0
Grows h l = Grew h l (λ written. Unit {0})

pub grew_none : (h : Option (List ℕ)) → Grows h h
grew_none h = ([], Appends-nil h, tt)

grew_more : (h k l : Option (List ℕ)) (bytes : List ℕ) → Grows h k → Appends k l bytes → Grows h l
grew_more h k l bytes (w, p, u) more = (w ++ bytes, Appends-trans h k l w bytes p more, tt)

pub grew_fed : (A : Type 0) (R' R : Stream → Stream → Type 0) (xs : List Record) (r : Result A End) (h k l : Option (List ℕ)) → Grows h k → Fed R' R xs r k l → Grows h l
grew_fed A R' R xs (Ok o) h k l g fed = grew_more h k l (text fed.0) g fed.1
grew_fed A R' R xs (Err (ends.Fault f)) h k l g fed = grew_more h k l (text fed.0) g fed.1
grew_fed A R' R xs (Err ends.Write) h k l g fed = grew_more h k l fed.0 g fed.1
grew_fed A R' R xs (Err ends.Memory) h k l g fed = grew_more h k l (text fed.0) g fed.1
grew_fed A R' R xs (Err ends.Done) h k l g fed = absurd fed
grew_fed A R' R xs (Err ends.Read) h k l g fed = absurd fed
grew_fed A R' R xs (Err ends.Stopped) h k l g fed = absurd fed

pub grew_closed : (R : Stream → Stream → Type 0) (e : End) (h k l : Option (List ℕ)) → Grows h k → ClosedWith R e k l → Grows h l
grew_closed R ends.Done h k l g c = grew_more h k l (text c.0) g c.1
grew_closed R (ends.Fault f) h k l g c = grew_more h k l (text c.0) g c.1
grew_closed R ends.Write h k l g c = grew_more h k l c.0 g c.1
grew_closed R ends.Memory h k l g c = grew_more h k l (text c.0) g c.1
grew_closed R ends.Read h k l g c = absurd c
grew_closed R ends.Stopped h k l g c = absurd c

-- ---- causes

pub fed_ending : (A : Type 0) (R' R : Stream → Stream → Type 0) (xs : List Record) (e : End) (h l : Option (List ℕ)) → Fed {A = A} R' R xs (Err e) h l → IsEnding e
fed_ending A R' R xs (ends.Fault f) h l fed = tt
fed_ending A R' R xs ends.Write h l fed = tt
fed_ending A R' R xs ends.Memory h l fed = tt
fed_ending A R' R xs ends.Done h l fed = tt
fed_ending A R' R xs ends.Read h l fed = tt
fed_ending A R' R xs ends.Stopped h l fed = fed

pub closed_ending : (R : Stream → Stream → Type 0) (e : End) (h l : Option (List ℕ)) → ClosedWith R e h l → IsEnding e
closed_ending R ends.Done h l c = tt
closed_ending R (ends.Fault f) h l c = tt
closed_ending R ends.Write h l c = tt
closed_ending R ends.Memory h l c = tt
closed_ending R ends.Read h l c = tt
closed_ending R ends.Stopped h l c = c

pub take_ending : (e : End) (before now : ℕ) → TakeCause (Err e) before now → IsEnding e
take_ending ends.Done b n c = tt
take_ending (ends.Fault f) b n c = tt
take_ending ends.Read b n c = tt
take_ending ends.Memory b n c = tt
take_ending ends.Write b n c = tt
take_ending ends.Stopped b n c = c

-- the counts stood as at the beginning
pub fed_cause : (A : Type 0) (R' R : Stream → Stream → Type 0) (xs : List Record) (e : End) (h l : Option (List ℕ)) (s0 s1 k0 k1 : ℕ) → Fed {A = A} R' R xs (Err e) h l → s1 ≡ s0 → FeedCause {A = A} (Err e) k0 k1 → Causes e s0 s1 k0 k1
fed_cause A R' R xs (ends.Fault f) h l s0 s1 k0 k1 fed s k = (s, k)
fed_cause A R' R xs ends.Write h l s0 s1 k0 k1 fed s k = (omega (arith, s), k)
fed_cause A R' R xs ends.Memory h l s0 s1 k0 k1 fed s k = (s, k)
fed_cause A R' R xs ends.Done h l s0 s1 k0 k1 fed s k = absurd fed
fed_cause A R' R xs ends.Read h l s0 s1 k0 k1 fed s k = absurd fed
fed_cause A R' R xs ends.Stopped h l s0 s1 k0 k1 fed s k = absurd fed

-- ---- the flush

pub either : (P : End → Type 0) (e result : End) (before now : ℕ) → Flushed e result before now → P e → P ends.Write → P result
either P e result before now (inl f) p q = subst P (sym f.0) p
either P e result before now (inr f) p q = subst P (sym f.0) q

pub closed_err : (A : Type 0) (R : Stream → Stream → Type 0) (e : End) (h l : Option (List ℕ)) → Finished {A = A} R (Err e) h l → ClosedWith R e h l
closed_err A R (ends.Fault f) h l fin = fin
closed_err A R ends.Write h l fin = fin
closed_err A R ends.Memory h l fin = fin
closed_err A R ends.Done h l fin = absurd fin
closed_err A R ends.Read h l fin = fin
closed_err A R ends.Stopped h l fin = fin

-- memory ran out before anything was read
pub told_memory : (R : Stream → Stream → Type 0) (a h : Option (List ℕ)) → HasAll R → Told a a (λ input rest. IsEndOf rest input × Grew h h (λ written. Ran R input rest written ends.Memory))
told_memory R a h all = told_same _ a (λ x. (([], refl), ([], Appends-nil h, ran_memory R R x x [] [] (goes_none R) all (reads x, refl))))

-- what is left behind a flush
pub ran_flushed : (R : Stream → Stream → Type 0) (a c h l m : Option (List ℕ)) (e result : End) (before now : ℕ) → StreamedTold R (ends_of a c h l) e → Keeps l m → Flushed e result before now → RanTold R (ends_of a c h m) result
ran_flushed R a c h l m e result before now s kept f = record {
  ending = either IsEnding e result before now f s.ending tt;
  grew = (s.grew.0, Appends-kept h l m s.grew.0 s.grew.1 kept, tt);
  ran = told_map a c s.ran (λ input rest r. (
    r.0,
    (
      r.1.0,
      Appends-kept h l m r.1.0 r.1.1 kept,
      either (Ran R input rest r.1.0) e result before now f r.1.2.0 r.1.2.1,
    ),
  ));
}
