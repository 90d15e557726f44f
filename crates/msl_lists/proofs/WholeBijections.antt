-- Targets each of which is taken: the test of a bijection, and what it says.
use Rattle.std.proofs.Common.{◌≡◌, ◌≢◌, ◌<◌, ℕ, zero, suc, ℤ, pos, negsuc, Bool, true, false, not, List, [], ◌∷◌, length, get_or, map, Ok, refl, sym, ap, ◌∙◌, arith}
use Rattle.std.specs.Prelude.{eqb, AllPairs}
use Rattle.std.specs.List.{list_any, position_or_len}
use Rattle.std.proofs.lemmas.Bool.{eqb-true, eq-eqb}
use Rattle.std.proofs.lemmas.Bool.Decides.{Decides-eqb}
use Rattle.std.proofs.lemmas.List.FromFn.{length-map-range_with_len, get_or-map-range_with_len, length-range_with_len, get_or-range_with_len}
use Rattle.std.proofs.lemmas.List.Folds.{Any-from_list_any, list_any_at, list_all_at}
use Rattle.std.proofs.lemmas.List.Sums.{prefix_len_stops, list_all-from_AllPass}
use Rattle.std.proofs.lemmas.Map.Made.{IsDistinct-from_AllPairs}
use Rattle.std.proofs.lemmas.Map.Steps.{length-le_from_distinct_below}
use Rattle.msl_fun.specs.Meaning.{same}
use Rattle.msl_lists.specs.Whole.{Function, at, below, is_bijection, source}
use Rattle.msl_lists.specs.WholeLaws.{IsBijection}

-- ---- as many values below n as there are places, all different, are all of them

module _ (n : ℕ) (f : ℕ → ℕ) (within : (k : ℕ) → k < n → f k < n) (one_to_one : (j k : ℕ) → j < n → k < n → f j ≡ f k → j ≡ k) where
  values : List ℕ
  values = map f (below n)

  value_at : (k d : ℕ) → k < n → get_or values k d ≡ f k
  unfolding values
  value_at k d lt = get_or-map-range_with_len f 0 n k k d lt (omega arith)

  long : length values ≡ n
  unfolding values
  long = length-map-range_with_len f 0 n

  -- one more that is none of them would be one too many
  no_other : (i : ℕ) → i < n → list_any (eqb i) values ≡ false → ⊥
  no_other i lt none = omega (arith, long, length-le_from_distinct_below (i ∷ values) n (IsDistinct-from_AllPairs Decides-eqb (i ∷ values) apart) all_below)
    where
      apart : AllPairs (λ x y. x ≢ y) (i ∷ values)
      apart zero zero d p q = absurd (omega arith)
      apart zero (suc k) d p q = λ e.
          let inside : k < length values = omega arith in
          absurd (cc (list_any_at (eqb i) values k d inside (eq-eqb i (get_or values k d) e), none))
      apart (suc j) zero d p q = absurd (omega arith)
      apart (suc j) (suc k) d p q = λ e.
          let here : k < n = omega (arith, long) in
          let there : j < n = omega (arith, long) in
          let same_place : j ≡ k = one_to_one j k there here (sym (value_at j d there) ∙ e ∙ value_at k d here) in
          omega arith

      at_place : (q : ℕ) (k x : ℕ) → k < length (i ∷ values) → get_or (i ∷ values) k x ≡ x → q ≡ x → q < n
      at_place q zero x p e s = omega arith
      at_place q (suc k) x p e s = let here : k < n = omega (arith, long) in omega (arith, within k here, value_at k x here)

      all_below : (q : ℕ) → list_any (eqb q) (i ∷ values) ≡ true → q < n
      all_below q h = let found = Any-from_list_any (eqb q) (i ∷ values) h in at_place q found.0 found.1 found.2 found.3 (eqb-true q found.1 found.4)

  taken : (i : ℕ) (b : Bool) → list_any (eqb i) values ≡ b → i < n → (k : ℕ) × (k < n) × (f k ≡ i)
  taken i true h lt =
      let found = Any-from_list_any (eqb i) values h in
      let here : found.0 < n = omega (arith, long, found.2) in
      (found.0, here, sym (value_at found.0 found.1 here) ∙ found.3 ∙ sym (eqb-true i found.1 found.4))
  taken i false h lt = absurd (no_other i lt h)

  pub all_taken : (i : ℕ) → i < n → (k : ℕ) × (k < n) × (f k ≡ i)
  all_taken i lt = taken i (list_any (eqb i) values) refl lt

-- ---- the values of a function at the places below n

pub record AreValues (u : Function) (n : ℕ) (targets : List ℤ) : Type 0 where
  pub long : length targets ≡ n
  pub each : (i : ℕ) → i < n → u (pos i ∷ []) ≡ Ok (at targets i)

same_pos : (i : ℕ) (z : ℤ) → same (pos i) z ≡ true → z ≡ pos i
same_pos i (pos m) h = ap pos (sym (eqb-true i m h))
same_pos i (negsuc m) h = cc

pos_same : (i : ℕ) (z : ℤ) → z ≡ pos i → same (pos i) z ≡ true
pos_same i z h = ap (same (pos i)) h ∙ eq-eqb i i refl

-- the first element that passes is there
first_there : {X : Type 0} (p : X → Bool) (xs : List X) → list_any p xs ≡ true → position_or_len p xs < length xs
first_there p [] h = cc
first_there p (x ∷ xs) h = go (p x) refl (first_there p xs)
  where
    go : (b : Bool) → p x ≡ b → (list_any p xs ≡ true → position_or_len p xs < length xs) → position_or_len p (x ∷ xs) < length (x ∷ xs)
    go true e more = rw e (omega arith)
    go false e more = let there = more (rw e at h) in rw e (omega arith)

-- at the first element that passes the test passes
first_passes : (p : ℤ → Bool) (xs : List ℤ) → position_or_len p xs < length xs → p (at xs (position_or_len p xs)) ≡ true
first_passes p xs lt = go (p (at xs (position_or_len p xs))) refl (prefix_len_stops (λ x. not (p x)) xs (pos 0) lt)
  where
    go : (b : Bool) → p (at xs (position_or_len p xs)) ≡ b → not (p (at xs (position_or_len p xs))) ≡ false → p (at xs (position_or_len p xs)) ≡ true
    go true e h = e
    go false e h = let wrong : true ≡ false = rw e at h in cc

module _ (u : Function) (n : ℕ) (targets : List ℤ) (are : AreValues u n targets) where
  pub same_value : (i : ℕ) (z : ℤ) → i < n → u (pos i ∷ []) ≡ Ok z → at targets i ≡ z
  same_value i z lt e = let h = are.each i lt in cc

  -- ---- where the test passes

  module _ (passes : is_bijection n targets ≡ true) where
    named : (k : ℕ) → k < n → list_any (same (pos k)) targets ≡ true
    named k lt = go (list_any (same (pos k)) targets) refl
      where
        is_k : get_or (below n) k 0 ≡ k
        is_k = get_or-range_with_len 0 n k 0 lt ∙ omega arith

        go : (b : Bool) → list_any (same (pos k)) targets ≡ b → list_any (same (pos k)) targets ≡ true
        go true e = e
        go false e =
            let inside : k < length (below n) = omega (arith, length-range_with_len 0 n) in
            let fails : is_bijection n targets ≡ false = list_all_at (λ i. list_any (same (pos i)) targets) (below n) k 0 inside (ap (λ i. list_any (same (pos i)) targets) is_k ∙ e) in
            cc

    source_below : (k : ℕ) → k < n → source targets k < n
    source_below k lt = omega (arith, are.long, first_there (same (pos k)) targets (named k lt))

    source_is : (k : ℕ) → k < n → at targets (source targets k) ≡ pos k
    source_is k lt = same_pos k (at targets (source targets k)) (first_passes (same (pos k)) targets (first_there (same (pos k)) targets (named k lt)))

    sources_differ : (j k : ℕ) → j < n → k < n → source targets j ≡ source targets k → j ≡ k
    sources_differ j k p q e = let a = source_is j p in let b = source_is k q in let c : pos j ≡ pos k = sym a ∙ ap (at targets) e ∙ b in cc

    -- each place is the source of one
    sourced : (i : ℕ) → i < n → (k : ℕ) × (k < n) × (source targets k ≡ i)
    sourced = all_taken n (source targets) source_below sources_differ

    target_of : (i : ℕ) (lt : i < n) → at targets i ≡ pos (sourced i lt).0
    target_of i lt = ap (at targets) (sym (sourced i lt).2) ∙ source_is (sourced i lt).0 (sourced i lt).1

    pub bijection_from_test : IsBijection u n
    bijection_from_test = record {
      within = λ i lt. ((sourced i lt).0, (sourced i lt).1, are.each i lt ∙ ap Ok (target_of i lt));
      one_to_one = λ i j p q e.
          let same_target : pos (sourced i p).0 ≡ pos (sourced j q).0 = sym (target_of i p) ∙ same_value i (at targets j) p (e ∙ are.each j q) ∙ target_of j q in
          let same_source : (sourced i p).0 ≡ (sourced j q).0 = cc in
          sym (sourced i p).2 ∙ ap (source targets) same_source ∙ (sourced j q).2;
      onto = λ to lt. (source targets to, source_below to lt, are.each (source targets to) (source_below to lt) ∙ ap Ok (source_is to lt));
    }

  -- ---- where it is a bijection

  module _ (bijection : IsBijection u n) where
    hit : (k : ℕ) → k < n → list_any (same (pos k)) targets ≡ true
    hit k lt =
        let o = bijection.onto k lt in
        list_any_at (same (pos k)) targets o.0 (pos 0) (omega (arith, are.long, o.1)) (pos_same k (at targets o.0) (same_value o.0 (pos k) o.1 o.2))

    pub test_from_bijection : is_bijection n targets ≡ true
    test_from_bijection = list_all-from_AllPass (λ i. list_any (same (pos i)) targets) (below n) (λ k d lt.
        let inside : k < n = omega (arith, length-range_with_len 0 n) in
        let is_k : get_or (below n) k d ≡ k = get_or-range_with_len 0 n k d inside ∙ omega arith in
        ap (λ i. list_any (same (pos i)) targets) is_k ∙ hit k inside)

    -- a place's target comes from there
    pub source_of : (i to : ℕ) → i < n → u (pos i ∷ []) ≡ Ok (pos to) → (to < n) × (source targets to ≡ i)
    source_of i to lt e = (inside, bijection.one_to_one (source targets to) i source_inside lt (are.each (source targets to) source_inside ∙ ap Ok (same_pos to (at targets (source targets to)) (first_passes (same (pos to)) targets first)) ∙ sym e))
      where
        inside : to < n
        inside = let w = bijection.within i lt in let h = w.2 in let same_to : w.0 ≡ to = cc in omega (arith, w.1, same_to)

        first : source targets to < length targets
        first = first_there (same (pos to)) targets (hit to inside)

        source_inside : source targets to < n
        source_inside = omega (arith, are.long, first)
