-- The values of a list in parts, or its first fault.
use Rattle.std.proofs.Common.{◌≡◌, ◌<◌, ◌≤◌, ◌+◌, ◌-◌, ℕ, zero, suc, ℤ, List, [], ◌∷◌, ◌++◌, length, get_or, map, Result, Ok, Err, refl, sym, subst, ap, ◌∙◌, arith}
use Rattle.std.specs.List.{flat_map}
use Rattle.std.proofs.lemmas.List.{append-nil, append_assoc}
use Rattle.std.proofs.lemmas.List.FromFn.{length-map-range_with_len, get_or-map-range_with_len, map-range_with_len_more}
use Rattle.std.proofs.lemmas.Grind.{flat_map-append}
use Rattle.msl_base.specs.declared.fault.Fault.{Fault}
use Rattle.msl_base.specs.Blocks.{begin}
use Rattle.msl_base.proofs.Tiles.{tiles}
use Rattle.msl_lists.specs.Whole.{◌>>=◌, below, collect, each}
use Rattle.msl_lists.specs.WholeLaws.{both, joined, IsEach}
use Rattle.msl_lists.proofs.WholeEach.{each_is}
use Rattle.msl_lists.proofs.WholeUnique.{one_each}

module _ {A E : Type 0} where
  both_nil : (q : Result (List A) E) → q ≡ both (Ok []) q
  both_nil (Ok ys) = refl
  both_nil (Err e) = refl

  both_cons : (r : Result A E) (p q : Result (List A) E) → (r >>= λ x. both p q >>= λ zs. Ok (x ∷ zs)) ≡ both (r >>= λ x. p >>= λ xs. Ok (x ∷ xs)) q
  both_cons (Ok x) (Ok xs) (Ok ys) = refl
  both_cons (Ok x) (Ok xs) (Err e) = refl
  both_cons (Ok x) (Err e) q = refl
  both_cons (Err e) p q = refl

  pub collect_parts : (xs ys : List (Result A E)) → collect (xs ++ ys) ≡ both (collect xs) (collect ys)
  collect_parts [] ys = both_nil (collect ys)
  collect_parts (r ∷ xs) ys = ap (λ (q : Result (List A) E). r >>= λ x. q >>= λ zs. Ok (x ∷ zs)) (collect_parts xs ys) ∙ both_cons r (collect xs) (collect ys)

  below_parts : (m n : ℕ) (f : ℕ → Result A E) → map f (below (m + n)) ≡ map f (below m) ++ map (λ i. f (m + i)) (below n)
  below_parts m zero f = let none : m + zero ≡ m = omega arith in ap (λ k. map f (below k)) none ∙ sym (append-nil (map f (below m)))
  below_parts m (suc n) f =
      let next : m + suc n ≡ m + n + 1 = omega arith in
      let more : n + 1 ≡ suc n = omega arith in
      ap (λ k. map f (below k)) next
      ∙ map-range_with_len_more f 0 (m + n) (m + n) (omega arith)
      ∙ ap (λ (xs : List (Result A E)). xs ++ f (m + n) ∷ []) (below_parts m n f)
      ∙ append_assoc (map f (below m)) (map (λ i. f (m + i)) (below n)) (f (m + n) ∷ [])
      ∙ ap (λ (xs : List (Result A E)). map f (below m) ++ xs) (sym (map-range_with_len_more (λ i. f (m + i)) 0 n n (omega arith)))
      ∙ ap (λ k. map f (below m) ++ map (λ i. f (m + i)) (below k)) more

  pub each_parts : (m n : ℕ) (f : ℕ → Result A E) → each (m + n) f ≡ both (each m f) (each n (λ i. f (m + i)))
  each_parts m n f = ap (λ (rs : List (Result A E)). collect rs) (below_parts m n f) ∙ collect_parts (map f (below m)) (map (λ i. f (m + i)) (below n))

-- ---- where all have values

module _ {A E : Type 0} where
  record AreOk (rs : List (Result A E)) (xs : List A) : Type 0 where
    many : length xs ≡ length rs
    value : (k : ℕ) (d : A) → k < length xs → get_or rs k (Ok d) ≡ Ok (get_or xs k d)

  cons_ok : (x : A) (xs : List A) (rs : List (Result A E)) → AreOk rs xs → AreOk (Ok x ∷ rs) (x ∷ xs)
  cons_ok x xs rs h = record { many = ap suc h.many; value = here }
    where
      here : (k : ℕ) (d : A) → k < suc (length xs) → get_or (Ok x ∷ rs) k (Ok d) ≡ Ok (get_or (x ∷ xs) k d)
      here zero d lt = refl
      here (suc k) d lt = h.value k d (omega arith)

  more_ok : (r : Result A E) (rest : Result (List A) E) (rs : List (Result A E)) (xs : List A) → ((ys : List A) → rest ≡ Ok ys → AreOk rs ys)
      → (r >>= λ y. rest >>= λ ys. Ok (y ∷ ys)) ≡ Ok xs → AreOk (r ∷ rs) xs
  more_ok (Err f) rest rs xs h e = let p : ◌≡◌ {A = Result (List A) E} (Err f) (Ok xs) = e in cc
  more_ok (Ok x) (Err f) rs xs h e = let p : ◌≡◌ {A = Result (List A) E} (Err f) (Ok xs) = e in cc
  more_ok (Ok x) (Ok ys) rs xs h e =
      let p : ◌≡◌ {A = Result (List A) E} (Ok (x ∷ ys)) (Ok xs) = e in
      let q : x ∷ ys ≡ xs = cc in
      subst (AreOk (Ok x ∷ rs)) q (cons_ok x ys rs (h ys refl))

  all_ok : (rs : List (Result A E)) (xs : List A) → collect rs ≡ Ok xs → AreOk rs xs
  all_ok [] xs e =
      let p : ◌≡◌ {A = Result (List A) E} (Ok []) (Ok xs) = e in
      let q : [] ≡ xs = cc in
      subst (AreOk []) q (record { many = refl; value = λ k d lt. absurd (omega arith) })
  all_ok (r ∷ rs) xs e = more_ok r (collect rs) rs xs (all_ok rs) e

  pub each_values : (n : ℕ) (f : ℕ → Result A E) (xs : List A) → each n f ≡ Ok xs → (length xs ≡ n) × ((k : ℕ) (d : A) → k < n → f k ≡ Ok (get_or xs k d))
  each_values n f xs e =
      let h = all_ok (map f (below n)) xs e in
      let many : length xs ≡ n = h.many ∙ length-map-range_with_len f 0 n in
      (many, λ k d lt. sym (get_or-map-range_with_len f 0 n k k (Ok d) lt (omega arith)) ∙ h.value k d (omega (arith, many, lt)))

-- ---- block by block

module _ {A E : Type 0} where
  one_more : (p : Result (List (List A)) E) (q : Result (List A) E) → both (joined p) q ≡ joined (p >>= λ xss. (q >>= λ ys. Ok (ys ∷ [])) >>= λ yss. Ok (xss ++ yss))
  one_more (Ok xss) (Ok ys) = ap Ok (sym (flat_map-append (λ xs. xs) xss (ys ∷ []) ∙ ap (λ (zs : List A). flat_map (λ xs. xs) xss ++ zs) (append-nil ys)))
  one_more (Ok xss) (Err e) = refl
  one_more (Err e) q = refl

  -- from the block's begin up to the next one's
  abbrev block : (ℕ → ℕ) → (ℕ → Result A E) → ℕ → Result (List A) E
  block first f j = each (first (j + 1) - first j) (λ i. f (first j + i))

  pub each_blocks : (b : ℕ) (first : ℕ → ℕ) (f : ℕ → Result A E) → first 0 ≡ 0 → ((j : ℕ) → j < b → first j ≤ first (j + 1)) → each (first b) f ≡ joined (each b (block first f))
  each_blocks zero first f none up = ap (λ n. each n f) none
  each_blocks (suc b) first f none up =
      let more : b + 1 ≡ suc b = omega arith in
      let long : first b + (first (b + 1) - first b) ≡ first (b + 1) = omega (arith, up b (omega arith)) in
      ap (λ j. each (first j) f) (sym more)
      ∙ ap (λ n. each n f) (sym long)
      ∙ each_parts (first b) (first (b + 1) - first b) f
      ∙ ap (λ (p : Result (List A) E). both p (block first f b)) (each_blocks b first f none (λ j lt. up j (omega arith)))
      ∙ one_more (each b (block first f)) (block first f b)
      ∙ ap (λ (r : Result (List (List A)) E). joined r) (sym (collect_parts (map (block first f) (below b)) (block first f b ∷ [])))
      ∙ ap (λ (rs : List (Result (List A) E)). joined (collect rs)) (sym (map-range_with_len_more (block first f) 0 b b (omega arith)))
      ∙ ap (λ n. joined (each n (block first f))) more

  pub each_tiles : (n b : ℕ) (f : ℕ → Result A E) → 1 ≤ b → each n f ≡ joined (each b (block (begin n b) f))
  each_tiles n b f some =
      let t = tiles n b some in
      ap (λ k. each k f) (sym t.last) ∙ each_blocks b (begin n b) f t.first (λ j lt. omega (arith, t.least j lt))

  same_below : (n : ℕ) (f g : ℕ → Result A E) → ((i : ℕ) → i < n → f i ≡ g i) → map f (below n) ≡ map g (below n)
  same_below zero f g same = refl
  same_below (suc n) f g same =
      let more : n + 1 ≡ suc n = omega arith in
      ap (λ k. map f (below k)) (sym more)
      ∙ map-range_with_len_more f 0 n n (omega arith)
      ∙ ap (λ (xs : List (Result A E)). xs ++ f n ∷ []) (same_below n f g (λ i lt. same i (omega arith)))
      ∙ ap (λ (x : Result A E). map g (below n) ++ x ∷ []) (same n (omega arith))
      ∙ sym (map-range_with_len_more g 0 n n (omega arith))
      ∙ ap (λ k. map g (below k)) more

  pub each_congruent : (n : ℕ) (f g : ℕ → Result A E) → ((i : ℕ) → i < n → f i ≡ g i) → each n f ≡ each n g
  each_congruent n f g same = ap (λ (rs : List (Result A E)). collect rs) (same_below n f g same)

-- what the blocks say of themselves
pub each_from_blocks : (n b : ℕ) (f : ℕ → Result ℤ Fault) (r : ℕ → Result (List ℤ) Fault) → 1 ≤ b → ((j : ℕ) → j < b → IsEach (begin n b (j + 1) - begin n b j) (λ i. f (begin n b j + i)) (r j)) → each n f ≡ joined (each b r)
each_from_blocks n b f r some are =
    each_tiles n b f some
    ∙ ap (λ (blocks : Result (List (List ℤ)) Fault). joined blocks) (each_congruent b (block (begin n b) f) r (λ j lt.
    let size = begin n b (j + 1) - begin n b j in
    let inside = λ (i : ℕ). f (begin n b j + i) in
    one_each size inside (each size inside) (r j) (each_is size inside) (are j lt)))
