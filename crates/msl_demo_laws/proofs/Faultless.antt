-- Streams of records that all give a record: what is made of them has no fault.
use Rattle.std.proofs.Common.{◌≡◌, List, [], ◌∷◌, ◌++◌, map, Option, Some, None, Ok, Err, refl, sym, ap, ◌∙◌, append-nil, subst}
use Rattle.std.proofs.lemmas.List.Elements.{All-from_recursion, recursion_from_All}
use Rattle.std.proofs.lemmas.List.Sorted.{All-permutation, IsPermutation-map}
use Rattle.std.specs.List.{AllByRecursion}
use Rattle.std.specs.Prelude.{IsPermutation}
use Rattle.msl_base.specs.declared.fault.Fault.{Fault}
use Rattle.msl_base.specs.Streams.{Record, Outcome, Trial, Ending, done, Stream, stream, tried, AllTrue, goods, before_fault, first_fault, EndsBy, Pointwise, Unordered}

ends_whole : (o : Option Fault) (rest : List Record) (e now : Ending) → o ≡ None → EndsBy o rest e now → (rest ≡ []) × (now ≡ e)
ends_whole None rest e now is h = h
ends_whole (Some f) rest e now is h = cc

module _ (P : Record → Type 0) where
  pub front_all : (xs ys : List Record) → AllByRecursion P (xs ++ ys) → AllByRecursion P xs
  front_all [] ys h = tt
  front_all (x ∷ xs) ys h = (h.0, front_all xs ys h.1)

same_ok : (y z : Record) → ◌≡◌ {A = Outcome} (Ok y) (Ok z) → y ≡ z
same_ok y z e = cc

never_ok : (e : Fault) (z : Record) → ◌≡◌ {A = Outcome} (Err e) (Ok z) → ⊥
never_ok e z is = cc

module _ (f : Record → Record) where
  abbrev IsGood : Trial → Type 0
  IsGood t = t.1 ≡ Ok (f t.0)

  abbrev given : Trial → Record
  given t = f t.0

  goods_given : (ts : List Trial) → AllByRecursion IsGood ts → goods ts ≡ map given ts
  goods_given [] h = refl
  goods_given ((x, Ok y) ∷ ts) h = ap (λ z. z ∷ goods ts) (same_ok y (f x) h.0) ∙ ap (λ zs. f x ∷ zs) (goods_given ts h.1)
  goods_given ((x, Err e) ∷ ts) h = absurd (never_ok e (f x) h.0)

  before_given : (ts : List Trial) → AllByRecursion IsGood ts → before_fault ts ≡ map given ts
  before_given [] h = refl
  before_given ((x, Ok y) ∷ ts) h = ap (λ z. z ∷ before_fault ts) (same_ok y (f x) h.0) ∙ ap (λ zs. f x ∷ zs) (before_given ts h.1)
  before_given ((x, Err e) ∷ ts) h = absurd (never_ok e (f x) h.0)

  no_fault : (ts : List Trial) → AllByRecursion IsGood ts → first_fault ts ≡ None
  no_fault [] h = refl
  no_fault ((x, Ok y) ∷ ts) h = no_fault ts h.1
  no_fault ((x, Err e) ∷ ts) h = absurd (never_ok e (f x) h.0)

  of_tried : (ts : List Trial) → map given ts ≡ map f (map tried ts)
  of_tried [] = refl
  of_tried (t ∷ ts) = ap (λ zs. f t.0 ∷ zs) (of_tried ts)

  module _ (one : Record → Outcome → Type 0) (P : Record → Type 0) (gives : (x : Record) (r : Outcome) → P x → one x r → r ≡ Ok (f x)) where
    all_good : (ts : List Trial) → AllByRecursion P (map tried ts) → AllTrue one ts → AllByRecursion IsGood ts
    all_good [] p a = tt
    all_good (t ∷ ts) p a = (gives t.0 t.1 p.0 a.0, all_good ts p.1 a.1)

    module _ (X : List Record) (are : AllByRecursion P X) where
      -- the trials are of all records, and none faults
      record Tried (ts : List Trial) (now : Ending) : Type 0 where
        good : AllByRecursion IsGood ts
        all : map tried ts ≡ X
        whole : now ≡ done

      tried_all : (ts : List Trial) (rest : List Record) (now : Ending) → AllTrue one ts → X ≡ map tried ts ++ rest → EndsBy (first_fault ts) rest done now → Tried ts now
      tried_all ts rest now a from ends =
          let good = all_good ts (front_all P (map tried ts) rest (subst (AllByRecursion P) from are)) a in
          let e = ends_whole (first_fault ts) rest done now (no_fault ts good) ends in
          record { good = good; all = sym (from ∙ ap (λ l. map tried ts ++ l) e.0 ∙ append-nil (map tried ts)); whole = e.1 }

      pub pointwise_gives : (Y : Stream) → Pointwise one (stream X done) Y → Y ≡ stream (map f X) done
      pointwise_gives Y h =
          let t = tried_all h.trials h.rest Y.ending h.all h.from h.ends in
          let records : Y.records ≡ map f X = h.to ∙ before_given h.trials t.good ∙ of_tried h.trials ∙ ap (map f) t.all in
          λ i. record { records = records i; ending = t.whole i }

      pub unordered_gives : (Y : Stream) → Unordered one (stream X done) Y → (Y.ending ≡ done) × IsPermutation (map f X) Y.records
      unordered_gives Y h =
          let t = tried_all h.trials h.rest Y.ending h.all h.from h.ends in
          let ordered : AllByRecursion IsGood h.order = recursion_from_All IsGood h.order (All-permutation IsGood h.trials h.order h.reordered (All-from_recursion IsGood h.trials t.good)) in
          let records : Y.records ≡ map given h.order = h.to ∙ goods_given h.order ordered in
          let inputs : map given h.trials ≡ map f X = of_tried h.trials ∙ ap (map f) t.all in
          (t.whole, subst (IsPermutation (map f X)) (sym records) (subst (λ (l : List Record). IsPermutation l (map given h.order)) inputs (IsPermutation-map given h.trials h.order h.reordered)))
