-- What several workers make of the beginning of a stream begins what they can make of the whole.
use Rattle.std.proofs.Common.{◌≡◌, List, [], ◌∷◌, ◌++◌, map, Option, None, Ok, Err, refl, sym, ap, ◌∙◌, append_assoc, append-nil, subst}
use Rattle.std.proofs.lemmas.List.Sorted.{IsPermutation-append_left}
use Rattle.std.proofs.lemmas.List.{map-append}
use Rattle.msl_base.specs.declared.fault.Fault.{Fault}
use Rattle.msl_base.specs.Streams.{Record, Outcome, Trial, Ending, failed, stream, tried, AllTrue, goods, first_fault, EndsBy, end_by, Unordered, IsOpen, PrefixLaw}
use Rattle.msl_base.proofs.StreamLaws.{IsTotal, ends_so, ends_as, open_is_whole, fault_stays, true_append, trials_of}

goods_append : (ts us : List Trial) → goods (ts ++ us) ≡ goods ts ++ goods us
goods_append [] us = refl
goods_append ((x, Ok y) ∷ ts) us = ap (λ ys. y ∷ ys) (goods_append ts us)
goods_append ((x, Err f) ∷ ts) us = goods_append ts us

first_append : (ts us : List Trial) → first_fault ts ≡ None → first_fault (ts ++ us) ≡ first_fault us
first_append [] us h = refl
first_append ((x, Ok y) ∷ ts) us h = first_append ts us h
first_append ((x, Err f) ∷ ts) us h = cc

module _ (one : Record → Outcome → Type 0) where
  keeps_faults : (X more Y : List Record) (f : Fault) (stop e : Ending) → IsOpen stop → Unordered one (stream X stop) (stream Y (failed f))
      → Unordered one (stream (X ++ more) e) (stream Y (failed f))
  keeps_faults X more Y f stop e is h = record {
    trials = h.trials;
    order = h.order;
    rest = h.rest ++ more;
    all = h.all;
    reordered = h.reordered;
    from = ap (λ l. l ++ more) h.from ∙ append_assoc (map tried h.trials) h.rest more;
    to = h.to;
    ends = fault_stays (first_fault h.trials) h.rest more f stop e is h.ends;
  }

  -- more trials behind trials without a fault
  extended : (X Y : List Record) (us : List Trial) (stop e : Ending) → IsOpen stop → Unordered one (stream X stop) (stream Y stop) → AllTrue one us
      → Unordered one (stream (X ++ map tried us) e) (stream (Y ++ goods us) (end_by (first_fault us) e))
  extended X Y us stop e is h a =
      let whole = open_is_whole (first_fault h.trials) h.rest stop is h.ends in
      record {
        trials = h.trials ++ us;
        order = h.order ++ us;
        rest = [];
        all = true_append one h.trials us h.all a;
        reordered = IsPermutation-append_left us h.trials h.order h.reordered;
        from = ap (λ l. l ++ map tried us) (h.from ∙ ap (λ l. map tried h.trials ++ l) whole.1 ∙ append-nil (map tried h.trials))
            ∙ sym (map-append tried h.trials us) ∙ sym (append-nil (map tried (h.trials ++ us)));
        to = ap (λ l. l ++ goods us) h.to ∙ sym (goods_append h.order us);
        ends = subst (λ (o : Option Fault). EndsBy o [] e (end_by (first_fault us) e)) (sym (first_append h.trials us whole.0)) (ends_so (first_fault us) e);
      }

  pub farm_prefixes : IsTotal one → PrefixLaw (Unordered one)
  farm_prefixes total = record {
    goes_on = λ X more Y stop e is h.
        let ts = trials_of one total more in
        (goods ts.0, end_by (first_fault ts.0) e, subst (λ (l : List Record). Unordered one (stream (X ++ l) e) (stream (Y ++ goods ts.0) (end_by (first_fault ts.0) e))) ts.2 (extended X Y ts.0 stop e is h ts.1));
    keeps = keeps_faults;
    ends = λ X Y h. ends_as (first_fault h.trials) h.rest X.ending Y.ending h.ends;
  }
