-- Even numbers to the front, and odd ones behind them: each place is taken once.
use Rattle.std.proofs.Common.{◌≡◌, ◌<◌, ◌≤◌, ◌+◌, ◌-◌, ◌/◌, ◌%◌, ℕ, List, [], ◌∷◌, ◌++◌, length, slice_index_or, sym, subst, arith, inl, inr, ◌⊎◌}
use Rattle.std.proofs.lemmas.Bool.{cases_lt}
use Rattle.std.proofs.lemmas.List.{length_push, get_or_append_left, get_or_push}
use Rattle.msl_fabric.specs.Moves.{IsBijection}

-- where number k of n is dealt
pub record IsDealt (n k to : ℕ) : Type 0 where
  pub even : k % 2 < 1 → to ≡ k / 2
  pub odd : 1 ≤ k % 2 → to ≡ n - n / 2 + k / 2

abbrev pub AreDealt : ℕ → List ℕ → Type 0
AreDealt n to = (k : ℕ) → k < length to → IsDealt n k (slice_index_or to k 0)

pub dealt_more : (n : ℕ) (to : List ℕ) (x : ℕ) → AreDealt n to → IsDealt n (length to) x → AreDealt n (to ++ x ∷ [])
dealt_more n to x each last k lt = go (cases_lt k (length to))
  where
    go : (k < length to) ⊎ (length to ≤ k) → IsDealt n k (slice_index_or (to ++ x ∷ []) k 0)
    go (inl h) = subst (IsDealt n k) (sym (get_or_append_left to (x ∷ []) 0 k h)) (each k h)
    go (inr h) =
        let e : length to ≡ k = omega (arith, h, lt, length_push to x) in subst (IsDealt n k) (sym (get_or_push to x 0 k e)) (subst (λ j. IsDealt n j x) e last)

within : (n k to : ℕ) → k < n → IsDealt n k to → to < n
within n k to lt h = go (cases_lt (k % 2) 1)
  where
    go : (k % 2 < 1) ⊎ (1 ≤ k % 2) → to < n
    go (inl e) = omega (arith, lt, h.even e)
    go (inr o) = omega (arith, lt, o, h.odd o)

apart : (n i j to : ℕ) → i < n → j < n → IsDealt n i to → IsDealt n j to → i ≡ j
apart n i j to p q h g = go (cases_lt (i % 2) 1) (cases_lt (j % 2) 1)
  where
    go : (i % 2 < 1) ⊎ (1 ≤ i % 2) → (j % 2 < 1) ⊎ (1 ≤ j % 2) → i ≡ j
    go (inl e) (inl f) = omega (arith, e, f, h.even e, g.even f)
    go (inl e) (inr f) = omega (arith, e, f, p, q, h.even e, g.odd f)
    go (inr e) (inl f) = omega (arith, e, f, p, q, h.odd e, g.even f)
    go (inr e) (inr f) = omega (arith, e, f, h.odd e, g.odd f)

pub dealt_once : (n : ℕ) (to : List ℕ) → length to ≡ n → AreDealt n to → IsBijection n to
dealt_once n to long each = record {
  long = long;
  within = λ i lt. within n i (slice_index_or to i 0) lt (each i (omega (arith, lt, long)));
  apart = λ i j p q same.
      apart n i j (slice_index_or to j 0) p q (subst (IsDealt n i) same (each i (omega (arith, p, long)))) (each j (omega (arith, q, long)));
}
