-- One place more, and one answer to a function of places.
use Rattle.std.proofs.Common.{◌≡◌, ◌<◌, ◌≤◌, ◌+◌, ℕ, zero, suc, List, [], ◌∷◌, ◌++◌, length, slice_index_or, Result, Ok, Err, refl, sym, ap, subst, ◌∙◌, arith, length-append, inl, inr, ◌⊎◌}
use Rattle.std.proofs.lemmas.Bool.{cases_lt}
use Rattle.std.proofs.lemmas.List.{ext_get_or, get_or_append_left, get_or_push}
use Rattle.std.specs.Global.{Vec}
use Rattle.msl_side.specs.Places.{Led, Longer, AreAlike}

pub element-some : {X : Type 0} (xs : List X) (k : ℕ) → k < length xs → (y : X) × ((d : X) → slice_index_or xs k d ≡ y)
element-some [] k lt = absurd (omega (arith, lt))
element-some (x ∷ xs) zero lt = (x, λ d. refl)
element-some (x ∷ xs) (suc k) lt = element-some xs k (omega (arith, lt))

ok-same : {X E : Type 0} {x y : X} → ◌≡◌ {A = Result X E} (Ok x) (Ok y) → x ≡ y
ok-same h = cc

err-same : {X E : Type 0} {e f : E} → ◌≡◌ {A = Result X E} (Err e) (Err f) → e ≡ f
err-same h = cc

module _ {X E : Type 0} (gives : ℕ → Result X E → Type 0) where
  -- element i of a list with one more
  more : (xs : List X) (x : X) (n : ℕ) → length xs ≡ n → ((i : ℕ) (d : X) → i < n → gives i (Ok (slice_index_or xs i d))) → gives n (Ok x)
      → (i : ℕ) (d : X) → i < n + 1 → gives i (Ok (slice_index_or (xs ++ x ∷ []) i d))
  more xs x n len each last i d lt = go (cases_lt i n)
    where
      go : (i < n) ⊎ (n ≤ i) → gives i (Ok (slice_index_or (xs ++ x ∷ []) i d))
      go (inl h) = subst (λ z. gives i (Ok z)) (sym (get_or_append_left xs (x ∷ []) d i (omega (arith, h, len)))) (each i d h)
      go (inr h) = let e : n ≡ i = omega (arith, h, lt) in subst (λ z. gives i (Ok z)) (sym (get_or_push xs x d i (len ∙ e))) (subst (λ k. gives k (Ok x)) e last)

  pub led_more : (last n : ℕ) (all : Result (Vec X) E) (x : Result X E) (r : Result (Vec X) E)
      → last + 1 ≡ n → Led gives last all → gives last x → Longer all x r → Led gives n r
  led_more last n (Ok v) (Ok x) (Ok w) e h g k =
      let len : length w.items ≡ n = ap length k ∙ (length-append v.items (x ∷ []) ∙ (ap (λ m. m + 1) h.0 ∙ e)) in
      (len, λ i d lt. subst (λ ys. gives i (Ok (slice_index_or ys i d))) (sym k) (more v.items x last h.0 h.1 g i d (omega (arith, lt, e))))
  led_more last n (Ok v) (Ok x) (Err f) e h g k = absurd k
  led_more last n (Ok v) (Err b) (Ok w) e h g k = absurd k
  led_more last n (Ok v) (Err b) (Err f) e h g k = (
    last,
    omega (arith, e),
    subst (λ z. gives last (Err z)) (sym k) g,
    λ i lt. let y = element-some v.items i (omega (arith, lt, h.0)) in (y.0, subst (λ z. gives i (Ok z)) (y.1 y.0) (h.1 i y.0 lt)),
  )
  led_more last n (Err a) x (Ok w) e h g k = absurd k
  led_more last n (Err a) x (Err f) e h g k =
      (h.0, omega (arith, e, h.1), subst (λ z. gives h.0 (Err z)) (sym k) h.2, h.3)

module _ {X E : Type 0} (f : ℕ → Result X E) where
  abbrev Is : ℕ → Result X E → Type 0
  Is i r = r ≡ f i

  -- no place both answers and refuses
  not-both : (i : ℕ) (y : X) (e : E) → Ok y ≡ f i → Err e ≡ f i → ⊥
  not-both i y e h k = let same : ◌≡◌ {A = Result X E} (Ok y) (Err e) = h ∙ sym k in cc

  same-items : (n : ℕ) (xs ys : List X) → length xs ≡ n → length ys ≡ n → ((i : ℕ) (d : X) → i < n → Ok (slice_index_or xs i d) ≡ f i) → ((i : ℕ) (d : X) → i < n → Ok (slice_index_or ys i d) ≡ f i) → xs ≡ ys
  same-items n [] [] a b h k = refl
  same-items n [] (y ∷ ys) a b h k = absurd (omega (arith, a, b))
  same-items n (x ∷ xs) ys a b h k =
      ext_get_or x (x ∷ xs) ys (a ∙ sym b) (λ i lt. ok-same (h i x (omega (arith, lt, a)) ∙ sym (k i x (omega (arith, lt, a)))))

  pub one-answer : (n : ℕ) (a b : Result (Vec X) E) → Led Is n a → Led Is n b → AreAlike a b
  one-answer n (Ok v) (Ok w) h k = same-items n v.items w.items h.0 k.0 h.1 k.1
  one-answer n (Ok v) (Err e) h k = let y = element-some v.items k.0 (omega (arith, h.0, k.1)) in not-both k.0 _ e (h.1 k.0 y.0 k.1) k.2
  one-answer n (Err e) (Ok w) h k = let y = element-some w.items h.0 (omega (arith, k.0, h.1)) in not-both h.0 _ e (k.1 h.0 y.0 h.1) h.2
  one-answer n (Err e) (Err g) h k = go (cases_lt h.0 k.0) (cases_lt k.0 h.0)
    where
      go : (h.0 < k.0) ⊎ (k.0 ≤ h.0) → (k.0 < h.0) ⊎ (h.0 ≤ k.0) → e ≡ g
      go (inl before) _ = let y = k.3 h.0 before in absurd (not-both h.0 y.0 e y.1 h.2)
      go (inr _) (inl before) = let y = h.3 k.0 before in absurd (not-both k.0 y.0 g y.1 k.2)
      go (inr low) (inr high) = let same : h.0 ≡ k.0 = omega arith in err-same (h.2 ∙ ap f same ∙ sym k.2)
