-- What is made of all parts, by one hand or by several.
use Rattle.std.proofs.Common.{◌≡◌, ◌<◌, ◌≤◌, ◌+◌, ◌-◌, ℕ, zero, suc, ℤ, List, [], ◌∷◌, ◌++◌, length, take, drop, slice_index_or, Result, Ok, Err, IfOk, refl, sym, ap, ap₂, subst, ◌∙◌, arith}
use Rattle.std.specs.List.{flat_map}
use Rattle.std.specs.Global.{Vec}
use Rattle.std.proofs.Math.Seq.{take-add}
use Rattle.std.proofs.lemmas.List.{drop-drop, map-append}
use Rattle.msl_base.specs.Blocks.{begin}
use Rattle.msl_base.specs.declared.fault.Fault.{Fault}
use Rattle.msl_base.specs.declared.answer.Halt.{Halt}
use Rattle.msl_base.specs.declared.answer.Halt.TheVariants as halt
use Rattle.msl_lists.specs.Whole.{each}
use Rattle.msl_side.specs.Places.{Led}
use Rattle.msl_local.specs.Outcomes.{part, ComesLike, Stops}
use Rattle.msl_local.specs.Parts.{flat, lengths, start, between}
use Rattle.msl_local.specs.Folds.{held_by, HandComes, HandsCome, IsJoined, all_of}
use Rattle.msl_local.proofs.Blocks.{begin_next, begin_first, begin_last}
use Rattle.msl_local.proofs.Lists.{size, flat_append, between_all, between_none, many_alike, start_first, start_last, start_rises}
use Rattle.msl_local.proofs.Outcomes.{ComesBy, ComesByAll, led_whole, whole}

-- by one hand
pub by_one : (f : ℕ → Result ℤ Fault) (a : List (Vec ℤ)) (n : ℕ) (r : Result (Vec (Vec ℤ)) Halt) → n ≡ length a
    → ComesLike (between a 0 n) (part f (start a 0) (start a n - start a 0)) r → ComesLike a (each (length (flat a)) f) r
by_one f a n r is h =
    let like : between a 0 n ≡ a = ap (between a 0) is ∙ between_all a in
    let many : start a n - start a 0 ≡ length (flat a) = omega (arith, start_first a, start_last a n (omega (arith, is))) in
    let want : part f (start a 0) (start a n - start a 0) ≡ each (length (flat a)) f = ap (part f 0) many ∙ whole f (length (flat a)) in
    subst (λ xs. ComesLike xs (each (length (flat a)) f) r) like (subst (λ w. ComesLike (between a 0 n) w r) want h)

flat_all : (vs : List (Vec (Vec ℤ))) → flat (all_of vs) ≡ flat_map (λ (w : Vec (Vec ℤ)). flat w.items) vs
flat_all [] = refl
flat_all (v ∷ vs) = flat_append v.items (all_of vs) ∙ ap (λ xs. flat v.items ++ xs) (flat_all vs)

between_parts : (a : List (Vec ℤ)) (x y z : ℕ) → x ≤ y → y ≤ z → between a x y ++ between a y z ≡ between a x z
between_parts a x y z up on =
    let rest : drop (y - x) (drop x a) ≡ drop y a = drop-drop (y - x) x a ∙ ap (λ k. drop k a) (omega (arith, up)) in
    ap (λ (xs : List (Vec ℤ)). between a x y ++ take (z - y) xs) (sym rest) ∙ sym (take-add (y - x) (z - y) (drop x a)) ∙ ap (λ k. take k (drop x a)) (omega (arith, up, on))

module _ (a : List (Vec ℤ)) where
  rises : (c : ℕ → ℕ) → ((i : ℕ) → c i ≤ c (i + 1)) → (n : ℕ) → c 0 ≤ c n
  rises c up zero = omega arith
  rises c up (suc n) = let e : c (n + 1) ≡ c (suc n) = ap c (omega arith) in omega (arith, rises c up n, up n, e)

  shift : (c : ℕ → ℕ) (i : ℕ) → c (suc i + 1) ≡ c (suc (i + 1))
  shift c i = ap c (omega arith)

  alike_all : (c : ℕ → ℕ) → ((i : ℕ) → c i ≤ c (i + 1)) → (vs : List (Vec (Vec ℤ)))
      → ((i : ℕ) (d : Vec (Vec ℤ)) → i < length vs → lengths (slice_index_or vs i d).items ≡ lengths (between a (c i) (c (i + 1))))
      → lengths (all_of vs) ≡ lengths (between a (c 0) (c (length vs)))
  alike_all c up [] each = ap lengths (sym (between_none a (c 0)))
  alike_all c up (v ∷ vs) each =
      let t : ℕ → ℕ = λ i. c (suc i) in
      let later : (i : ℕ) → t i ≤ t (i + 1) = λ i. let d : c (suc i) ≤ c (suc i + 1) = up (suc i) in omega (arith, shift c i, d) in
      let rest : lengths (all_of vs) ≡ lengths (between a (c 1) (c (suc (length vs)))) = alike_all t later vs (λ i d lt.
      subst (λ z. lengths (slice_index_or vs i d).items ≡ lengths (between a (c (suc i)) z)) (shift c i) (each (suc i) d (omega (arith, lt)))) in
      map-append size v.items (all_of vs)
      ∙ ap₂ (λ (xs ys : List ℕ). xs ++ ys) (each 0 v (omega arith)) rest
      ∙ sym (map-append size (between a (c 0) (c 1)) (between a (c 1) (c (suc (length vs)))))
      ∙ ap lengths (between_parts a (c 0) (c 1) (c (suc (length vs))) (up 0) (rises t later (length vs)))

-- by several, each of whose answers is as `gives` says
module _ (f : ℕ → Result ℤ Fault) (a : List (Vec ℤ)) (hands : ℕ) (some : 1 ≤ hands) (gives : ℕ → Result (Vec (Vec ℤ)) Halt → Type 0) where
  abbrev cut : ℕ → ℕ
  cut h = begin (length a) hands h

  outcomes : (h : ℕ) (q : Result (Vec (Vec ℤ)) Halt) → HandComes a f hands h q → ComesBy f (λ (w : Vec (Vec ℤ)). flat w.items) (part f (start a (cut h)) (start a (cut (h + 1)) - start a (cut h))) q
  outcomes h (Ok v) p = p.0
  outcomes h (Err e) p = p

  alike : (h : ℕ) (v : Vec (Vec ℤ)) → HandComes a f hands h (Ok v) → lengths v.items ≡ lengths (held_by a hands h)
  alike h v p = p.1

  pub by_hands : (r : Result (Vec (Vec (Vec ℤ))) Halt) → Led gives hands r → ((h : ℕ) (q : Result (Vec (Vec ℤ)) Halt) → h < hands → gives h q → HandComes a f hands h q) → HandsCome a f r
  by_hands r led means = go r led (led_whole f (λ (w : Vec (Vec ℤ)). flat w.items) (λ h. start a (cut h)) (λ h. start_rises a (cut h) (cut (h + 1)) (begin_next (length a) hands h)) hands (length (flat a))
      (ap (start a) (begin_first (length a) hands) ∙ start_first a) (start_last a (cut hands) (omega (arith, begin_last (length a) hands some))) gives r led
      (λ h q lt p. outcomes h q (means h q lt p)))
    where
      go : (q : Result (Vec (Vec (Vec ℤ))) Halt) → Led gives hands q → ComesByAll f (λ (w : Vec (Vec ℤ)). flat w.items) (each (length (flat a)) f) q → HandsCome a f q
      go (Ok v) l e =
          let all : lengths (all_of v.items) ≡ lengths (between a (cut 0) (cut (length v.items))) = alike_all a cut (begin_next (length a) hands) v.items
          (λ i d lt. alike i (slice_index_or v.items i d) (means i (Ok (slice_index_or v.items i d)) (omega (arith, lt, l.0)) (l.1 i d (omega (arith, lt, l.0))))) in
          let ends : between a (cut 0) (cut (length v.items)) ≡ a = ap₂ (between a) (begin_first (length a) hands) (ap cut l.0 ∙ begin_last (length a) hands some) ∙ between_all a in
          (e ∙ ap Ok (sym (flat_all v.items)), all ∙ ap lengths ends)
      go (Err halt.NoMemory) l e = tt
      go (Err (halt.Fault k)) l e = e

-- ---- what is put together of the answers of all hands

module _ (a : List (Vec ℤ)) (f : ℕ → Result ℤ Fault) where
  pub together : (r : Result (Vec (Vec (Vec ℤ))) Halt) (q : Result (Vec (Vec ℤ)) Halt) → HandsCome a f r → IsJoined r q → ComesLike a (each (length (flat a)) f) q
  together (Ok v) (Ok w) h e = (h.0 ∙ ap (λ (xs : List (Vec ℤ)). Ok (flat xs)) (sym e), ap lengths e ∙ h.1)
  together (Err h) (Err k) s e = subst (Stops (each (length (flat a)) f)) (sym e) s
  together (Ok v) (Err k) h e = absurd e
  together (Err h) (Ok w) s e = absurd e

  pub room_for : (r : Result (Vec (Vec (Vec ℤ))) Halt) (room : ℕ) → length a ≤ room → HandsCome a f r → IfOk r (λ v. length (all_of v.items) ≤ room)
  room_for (Ok v) room enough h = omega (arith, many_alike a (all_of v.items) h.1, enough)
  room_for (Err k) room enough h = tt
