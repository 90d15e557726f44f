-- Where two stages keep the law of prefixes, the two in turn keep it.
use Rattle.std.proofs.Common.{◌≡◌, List, ◌++◌, sym, ap, ◌∙◌, ◌⊎◌, inl, inr, subst}
use Rattle.msl_base.specs.declared.fault.Fault.{Fault}
use Rattle.msl_base.specs.Streams.{Record, Ending, failed, Stream, stream, IsOpen, PrefixLaw}
use Rattle.msl_base.proofs.StreamLaws.{not_failed}

-- a stream that changes nothing
pub same_prefixes : PrefixLaw (λ X Y. Y ≡ X)
same_prefixes = record {
  goes_on = λ X more Y stop e is h. (more, e, ap (λ (w : Stream). stream (w.records ++ more) e) h);
  keeps = λ X more Y f stop e is h. absurd (not_failed stop f is (sym (ap (λ (w : Stream). w.ending) h)));
  ends = λ X Y h. inl (ap (λ (w : Stream). w.ending) h);
}

abbrev EndsAs : Ending → Ending → Type 0
EndsAs e e' = (e' ≡ e) ⊎ ((f : Fault) × (e' ≡ failed f))

ends_through : (a b c : Ending) → EndsAs a b → EndsAs b c → EndsAs a c
ends_through a b c h (inr f) = inr f
ends_through a b c (inl h) (inl k) = inl (k ∙ h)
ends_through a b c (inr (f, h)) (inl k) = inr (f, k ∙ h)

module _ (R S : Stream → Stream → Type 0) (first : PrefixLaw R) (second : PrefixLaw S) where
  abbrev pub InTurn : Stream → Stream → Type 0
  InTurn X Y = (Z : Stream) × R X Z × S Z Y

  goes_on : (X more Y : List Record) (stop e : Ending) → IsOpen stop → (Z : List Record) (end : Ending) → EndsAs stop end → EndsAs end stop → R (stream X stop) (stream Z end)
      → S (stream Z end) (stream Y stop)
      → (rest : List Record) × (last : Ending) × InTurn (stream (X ++ more) e) (stream (Y ++ rest) last)
  goes_on X more Y stop e is Z end (inl c) k r q =
      let (middle, by, run) = first.goes_on X more Z stop e is (subst (λ (d : Ending). R (stream X stop) (stream Z d)) c r) in
      let (rest, last, run2) = second.goes_on Z middle Y stop by is (subst (λ (d : Ending). S (stream Z d) (stream Y stop)) c q) in
      (rest, last, (stream (Z ++ middle) by, run, run2))
  goes_on X more Y stop e is Z end (inr (g, c)) (inl k) r q = absurd (not_failed stop g is (k ∙ c))
  goes_on X more Y stop e is Z end (inr (g, c)) (inr (h, k)) r q = absurd (not_failed stop h is k)

  keeps : (X more Y : List Record) (f : Fault) (stop e : Ending) → IsOpen stop → (Z : List Record) (end : Ending) → EndsAs stop end → R (stream X stop) (stream Z end)
      → S (stream Z end) (stream Y (failed f))
      → InTurn (stream (X ++ more) e) (stream Y (failed f))
  keeps X more Y f stop e is Z end (inl c) r q =
      let (middle, by, run) = first.goes_on X more Z stop e is (subst (λ (d : Ending). R (stream X stop) (stream Z d)) c r) in
      (stream (Z ++ middle) by, run, second.keeps Z middle Y f stop by is (subst (λ (d : Ending). S (stream Z d) (stream Y (failed f))) c q))
  keeps X more Y f stop e is Z end (inr (g, c)) r q =
      let run = first.keeps X more Z g stop e is (subst (λ (d : Ending). R (stream X stop) (stream Z d)) c r) in
      (stream Z end, subst (λ (d : Ending). R (stream (X ++ more) e) (stream Z d)) (sym c) run, q)

  pub in_turn_prefixes : PrefixLaw InTurn
  in_turn_prefixes = record {
    goes_on = λ X more Y stop e is h. goes_on X more Y stop e is h.0.records h.0.ending (first.ends (stream X stop) h.0 h.1) (second.ends h.0 (stream Y stop) h.2) h.1 h.2;
    keeps = λ X more Y f stop e is h. keeps X more Y f stop e is h.0.records h.0.ending (first.ends (stream X stop) h.0 h.1) h.1 h.2;
    ends = λ X Y h. ends_through X.ending h.0.ending Y.ending (first.ends X h.0 h.1) (second.ends h.0 Y h.2);
  }
