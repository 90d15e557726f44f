-- Marks of targets: so many without a repetition are a permutation.
use Rattle.std.proofs.Common.{◌≡◌, ◌≢◌, ◌<◌, ◌≤◌, ◌+◌, ℕ, ℤ, pos, unsigned_abs, Bool, true, false, List, [], ◌∷◌, ◌++◌, length, take, drop, get_or, set, slice_index_or, replicate, Ok, refl, sym, subst, ap, ◌∙◌, arith, inl, inr, ◌⊎◌}
use Rattle.std.specs.Global.{Vec}
use Rattle.std.proofs.lemmas.Bool.{cases_lt, cases_order}
use Rattle.std.proofs.lemmas.List.{append_assoc, get_or_append_left, get_or-set_same, get_or-set_other, length-append, length-set, length_push, length-replicate, get_or-replicate, take-append-drop, take_more, drop_more}
use Rattle.std.proofs.lemmas.Grind.{flat_map-append}
use Rattle.std.proofs.Math.Seq.{get_or-append_seam}
use Rattle.msl_lists.specs.Whole.{Function, at, is_bijection}
use Rattle.msl_lists.specs.WholeLaws.{IsBijection}
use Rattle.msl_lists.proofs.WholeBijections.{AreValues, all_taken, bijection_from_test, same_value, test_from_bijection}
use Rattle.msl_local.specs.Parts.{flat}
use Rattle.msl_array.proofs.Shares.{flat_read}
use Rattle.msl_array.specs.Moves.{ArePlaces, AreMarked, Marks}

-- ---- targets, and the function that gives them

abbrev listed : List ℤ → Function
listed ts args = Ok (at ts (unsigned_abs (at args 0)))

values : (n : ℕ) (ts : List ℤ) → length ts ≡ n → AreValues (listed ts) n ts
values n ts long = record { long = long; each = λ i lt. refl }

pub places_of : (u : Function) (n : ℕ) (ts : List ℤ) → AreValues u n ts → IsBijection u n → ArePlaces n ts
places_of u n ts are b = record {
  within = λ i lt. let w = b.within i (omega (arith, lt, are.long)) in (w.0, w.1, same_value u n ts are i (pos w.0) (omega (arith, lt, are.long)) w.2);
  apart = λ i j p q e.
      let here : i < n = omega (arith, p, are.long) in
      let there : j < n = omega (arith, q, are.long) in
      b.one_to_one i j here there (are.each i here ∙ ap Ok e ∙ sym (are.each j there));
}

places_from : (n : ℕ) (ts : List ℤ) → length ts ≡ n → is_bijection n ts ≡ true → ArePlaces n ts
places_from n ts long e = places_of (listed ts) n ts (values n ts long) (bijection_from_test (listed ts) n ts (values n ts long) e)

pub test_passes : (n : ℕ) (ts : List ℤ) → length ts ≡ n → ArePlaces n ts → is_bijection n ts ≡ true
test_passes n ts long h = test_from_bijection (listed ts) n ts (values n ts long) record {
  within = λ i lt. let w = h.within i (omega (arith, lt, long)) in (w.0, w.1, ap Ok w.2);
  one_to_one = λ i j p q e. let same : at ts i ≡ at ts j = cc in h.apart i j (omega (arith, p, long)) (omega (arith, q, long)) same;
  onto = λ to lt. let k = all_taken n place below_n differ to lt in (k.0, k.1, ap Ok (is_place k.0 k.1 ∙ ap pos k.2));
}
  where
    place : ℕ → ℕ
    place i = unsigned_abs (at ts i)

    is_place : (i : ℕ) → i < n → at ts i ≡ pos (place i)
    is_place i lt = let w = h.within i (omega (arith, lt, long)) in w.2 ∙ ap pos (sym (ap unsigned_abs w.2))

    below_n : (i : ℕ) → i < n → place i < n
    below_n i lt = let w = h.within i (omega (arith, lt, long)) in omega (arith, w.1, ap unsigned_abs w.2)

    differ : (i j : ℕ) → i < n → j < n → place i ≡ place j → i ≡ j
    differ i j p q e = h.apart i j (omega (arith, p, long)) (omega (arith, q, long)) (is_place i p ∙ ap pos e ∙ sym (is_place j q))

test_fails : (n : ℕ) (ts : List ℤ) → length ts ≡ n → (ArePlaces n ts → ⊥) → is_bijection n ts ≡ false
test_fails n ts long none = go (is_bijection n ts) refl
  where
    go : (b : Bool) → is_bijection n ts ≡ b → is_bijection n ts ≡ false
    go true e = absurd (none (places_from n ts long e))
    go false e = e

-- ---- marks

pub none_marked : (n : ℕ) → AreMarked (replicate n false) []
none_marked n = record {
  places = record { within = λ i lt. absurd (omega (arith, lt)); apart = λ i j p q e. absurd (omega (arith, p)) };
  marked = λ i to lt e. absurd (omega (arith, lt));
  meant = λ to lt e.
      let inside : to < n = omega (arith, lt, length-replicate n false) in
      let unmarked = get_or-replicate n to false false inside in
      absurd (cc);
}

module _ (marks : List Bool) (front : List ℤ) (h : AreMarked marks front) (t : ℤ) where
  -- one place more
  pub more_marked : (after : List Bool) → Marks marks t true after → AreMarked after (front ++ t ∷ [])
  more_marked after m = subst (λ after. AreMarked after (front ++ t ∷ [])) (sym m.4) set_marks
    where
      new : ℕ
      new = m.0

      at_old : (i : ℕ) → i < length front → at (front ++ t ∷ []) i ≡ at front i
      at_old i lt = get_or_append_left front (t ∷ []) (pos 0) i lt

      at_new : (i : ℕ) → i ≡ length front → at (front ++ t ∷ []) i ≡ pos new
      at_new i e = ap (at (front ++ t ∷ [])) e ∙ get_or-append_seam front t [] (pos 0) ∙ m.2

      not_before : (i : ℕ) → i < length front → at front i ≢ pos new
      not_before i lt = λ e. let is = h.marked i new lt e in let was = m.3 in absurd (cc)

      which : (i : ℕ) → i < length (front ++ t ∷ []) → (i < length front) ⊎ (i ≡ length front)
      which i lt = go (cases_lt i (length front))
        where
          go : (i < length front) ⊎ (length front ≤ i) → (i < length front) ⊎ (i ≡ length front)
          go (inl less) = inl less
          go (inr more) = inr (omega (arith, more, lt, length_push front t))

      set_mark : (to : ℕ) → to ≢ new → slice_index_or (set marks new true) to false ≡ slice_index_or marks to false
      set_mark to other = get_or-set_other marks new to true false other

      set_marks : AreMarked (set marks new true) (front ++ t ∷ [])
      set_marks = record {
        places = record { within = λ i lt. within i (which i lt); apart = λ i j p q e. apart i j (which i p) (which j q) e };
        marked = λ i to lt e. marked i to (which i lt) e;
        meant = λ to lt e. meant to lt e (cases_order to new);
      }
        where
          within : (i : ℕ) → (i < length front) ⊎ (i ≡ length front) → (to : ℕ) × (to < length (set marks new true)) × (at (front ++ t ∷ []) i ≡ pos to)
          within i (inl less) = let w = h.places.within i less in (w.0, omega (arith, w.1, length-set marks new true), at_old i less ∙ w.2)
          within i (inr last) = (new, omega (arith, m.1, length-set marks new true), at_new i last)

          apart : (i j : ℕ) → (i < length front) ⊎ (i ≡ length front) → (j < length front) ⊎ (j ≡ length front) → at (front ++ t ∷ []) i ≡ at (front ++ t ∷ []) j → i ≡ j
          apart i j (inl p) (inl q) e = h.places.apart i j p q (sym (at_old i p) ∙ e ∙ at_old j q)
          apart i j (inl p) (inr q) e = absurd (not_before i p (sym (at_old i p) ∙ e ∙ at_new j q))
          apart i j (inr p) (inl q) e = absurd (not_before j q (sym (at_old j q) ∙ sym e ∙ at_new i p))
          apart i j (inr p) (inr q) e = omega (arith, p, q)

          same_new : (to : ℕ) → pos new ≡ pos to → to ≡ new
          same_new to e = let same : new ≡ to = cc in sym same

          marked : (i to : ℕ) → (i < length front) ⊎ (i ≡ length front) → at (front ++ t ∷ []) i ≡ pos to → slice_index_or (set marks new true) to false ≡ true
          marked i to (inl less) e =
              let old : at front i ≡ pos to = sym (at_old i less) ∙ e in
              let other : to ≢ new = λ same. not_before i less (old ∙ ap pos same) in
              set_mark to other ∙ h.marked i to less old
          marked i to (inr last) e =
              let same : to ≡ new = same_new to (sym (at_new i last) ∙ e) in
              ap (λ k. slice_index_or (set marks new true) k false) same ∙ get_or-set_same marks new true false m.1

          old_meant : (to : ℕ) → to < length (set marks new true) → slice_index_or (set marks new true) to false ≡ true → to ≢ new → (i : ℕ) × (i < length (front ++ t ∷ [])) × (at (front ++ t ∷ []) i ≡ pos to)
          old_meant to lt e other =
              let w = h.meant to (omega (arith, lt, length-set marks new true)) (sym (set_mark to other) ∙ e) in
              (w.0, omega (arith, w.1, length_push front t), at_old w.0 w.1 ∙ w.2)

          meant : (to : ℕ) → to < length (set marks new true) → slice_index_or (set marks new true) to false ≡ true → (to ≡ new) ⊎ ((to < new) ⊎ (new < to))
              → (i : ℕ) × (i < length (front ++ t ∷ [])) × (at (front ++ t ∷ []) i ≡ pos to)
          meant to lt e (inl same) = (length front, omega (arith, length_push front t), at_new (length front) refl ∙ ap pos (sym same))
          meant to lt e (inr (inl less)) = old_meant to lt e (λ same. absurd (omega (arith, less, same)))
          meant to lt e (inr (inr more)) = old_meant to lt e (λ same. absurd (omega (arith, more, same)))

  -- no place, or one that is marked: whatever comes behind, it is no permutation
  pub refused : (n : ℕ) (behind : List ℤ) → n ≡ length marks → Marks marks t false marks → length (front ++ t ∷ behind) ≡ n → is_bijection n (front ++ t ∷ behind) ≡ false
  refused n behind same m long = test_fails n (front ++ t ∷ behind) long wrong
    where
      last : ℕ
      last = length front

      at_last : at (front ++ t ∷ behind) last ≡ t
      at_last = get_or-append_seam front t behind (pos 0)

      inside : last < length (front ++ t ∷ behind)
      inside = let many = length-append front (t ∷ behind) in omega (arith, many)

      wrong : ArePlaces n (front ++ t ∷ behind) → ⊥
      wrong p =
          let w = p.within last inside in
          let is : t ≡ pos w.0 = sym at_last ∙ w.2 in
          let w_inside : w.0 < length marks = omega (arith, w.1, same) in
          let k = h.meant w.0 w_inside (m w.0 w_inside is) in
          let k_inside : k.0 < length (front ++ t ∷ behind) = omega (arith, k.1, inside) in
          let equal : k.0 ≡ last = p.apart k.0 last k_inside inside (get_or_append_left front (t ∷ behind) (pos 0) k.0 k.1 ∙ k.2 ∙ sym w.2) in
          omega (arith, equal, k.1)

-- ---- target after target

module _ (seen xs : List ℤ) (i : ℕ) (t : ℤ) (lt : i < length xs) (is : t ≡ at xs i) where
  pub next_seen : seen ++ take i xs ++ t ∷ [] ≡ seen ++ take (i + 1) xs
  next_seen = append_assoc seen (take i xs) (t ∷ []) ∙ ap (λ (x : ℤ). seen ++ (take i xs ++ x ∷ [])) is ∙ ap (λ (ys : List ℤ). seen ++ ys) (sym (take_more xs i (pos 0) lt))

  pub split_at : (rest : List ℤ) → seen ++ xs ++ rest ≡ seen ++ take i xs ++ t ∷ (drop (i + 1) xs ++ rest)
  split_at rest =
      let left : drop i xs ≡ at xs i ∷ drop (i + 1) xs = drop_more xs i (pos 0) lt in
      ap (λ (ys : List ℤ). seen ++ ys ++ rest) (sym (take-append-drop i xs) ∙ ap (λ (ys : List ℤ). take i xs ++ ys) left)
      ∙ ap (λ (ys : List ℤ). ys ++ rest) (sym (append_assoc seen (take i xs) (at xs i ∷ drop (i + 1) xs)))
      ∙ append_assoc (seen ++ take i xs) (at xs i ∷ drop (i + 1) xs) rest
      ∙ ap (λ (x : ℤ). seen ++ take i xs ++ x ∷ (drop (i + 1) xs ++ rest)) (sym is)

-- ---- part after part

pub split_parts : (parts : List (Vec ℤ)) (i : ℕ) (v : Vec ℤ) → i < length parts → v ≡ get_or parts i v → flat (take i parts) ++ v.items ++ flat (drop (i + 1) parts) ≡ flat parts
split_parts parts i v lt is =
    ap (λ (xs : List ℤ). xs ++ flat (drop (i + 1) parts)) (sym (flat_read parts i v lt is))
    ∙ sym (flat_map-append (λ (w : Vec ℤ). w.items) (take (i + 1) parts) (drop (i + 1) parts)) ∙ ap flat (take-append-drop (i + 1) parts)
