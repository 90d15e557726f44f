-- Runs of consecutive numbers.
use Rattle.std.proofs.Common.{◌≡◌, ◌<◌, ◌≤◌, ◌+◌, ◌-◌, ℕ, zero, suc, ◌∷◌, ◌++◌, length, Contains, get_or, refl, sym, ap, ◌∙◌, arith, inl, inr, ◌⊎◌, Bool, true, false, ◌==◌, if◌then◌else◌, Result, Ok, Err}
use Rattle.std.proofs.lemmas.Bool.{cases_lt}
use Rattle.std.proofs.lemmas.List.FromFn.{length-range_with_len, get_or-range_with_len}
use Rattle.std.proofs.lemmas.Bool.Decides.{nat_tests}
use Rattle.std.specs.List.{range_with_len}
use Rattle.msl_group.specs.Spans.{Span, span, members, merged}

-- a run, and behind it the next
pub range-append : (a n m : ℕ) → range_with_len a n ++ range_with_len (a + n) m ≡ range_with_len a (n + m)
range-append a zero m = ap (λ (b : ℕ). range_with_len b m) here ∙ ap (range_with_len a) none
  where
    here : a + zero ≡ a
    here = omega arith

    none : m ≡ zero + m
    none = omega arith
range-append a (suc n) m =
    let next : a + suc n ≡ a + 1 + n = omega arith in
    let more : suc (n + m) ≡ suc n + m = omega arith in
    ap (λ (b : ℕ). a ∷ (range_with_len (a + 1) n ++ range_with_len b m)) next ∙ ap (λ l. a ∷ l) (range-append (a + 1) n m) ∙ ap (range_with_len a) more

module _ (a n i : ℕ) where
  pub range-member : Contains (range_with_len a n) i → (a ≤ i) × (i < a + n)
  range-member h =
      let lt : h.0 < n = omega (arith, h.1, length-range_with_len a n) in
      let is : i ≡ a + h.0 = sym h.2 ∙ get_or-range_with_len a n h.0 i lt in
      (omega arith, omega arith)

  pub member-range : a ≤ i → i < a + n → Contains (range_with_len a n) i
  member-range low high =
      let lt : i - a < n = omega arith in
      (i - a, omega (arith, length-range_with_len a n), get_or-range_with_len a n (i - a) i lt ∙ omega arith)

-- the first k of a run, and the rest
pub range-split : (a n k : ℕ) → k ≤ n → range_with_len a k ++ range_with_len (a + k) (n - k) ≡ range_with_len a n
range-split a n k le = range-append a k (n - k) ∙ ap (range_with_len a) (omega arith)

pub split-each : (a n k i : ℕ) → k ≤ n → Contains (range_with_len a n) i → Contains (range_with_len a k) i ⊎ Contains (range_with_len (a + k) (n - k)) i
split-each a n k i le h = go (cases_lt i (a + k))
  where
    within : (a ≤ i) × (i < a + n)
    within = range-member a n i h

    go : (i < a + k) ⊎ (a + k ≤ i) → Contains (range_with_len a k) i ⊎ Contains (range_with_len (a + k) (n - k)) i
    go (inl front) = inl (member-range a k i within.0 front)
    go (inr rest) = inr (member-range (a + k) (n - k) i rest (omega (arith, within)))

pub split-apart : (a n k i : ℕ) → Contains (range_with_len a k) i → Contains (range_with_len (a + k) (n - k)) i → ⊥
split-apart a n k i h g = let front = range-member a k i h in let rest = range-member (a + k) (n - k) i g in omega (arith, front, rest)

pub range-once : (a n j k : ℕ) → j < length (range_with_len a n) → k < length (range_with_len a n) → get_or (range_with_len a n) j 0 ≡ get_or (range_with_len a n) k 0 → j ≡ k
range-once a n j k p q e =
    let long = length-range_with_len a n in
    let left = get_or-range_with_len a n j 0 (omega (arith, long, p)) in
    let right = get_or-range_with_len a n k 0 (omega (arith, long, q)) in
    omega (arith, left, right, e)

-- what two runs are as one
pub follow-members : (g next : Span) → next.first ≡ g.first + g.count → members (span g.first (g.count + next.count)) ≡ members g ++ members next
follow-members g next e = sym (range-append g.first g.count next.count) ∙ ap (λ (b : ℕ). members g ++ range_with_len b next.count) (sym e)

pub merged-members : (g next whole : Span) → merged g next ≡ Ok whole → members whole ≡ members g ++ members next
merged-members g next whole h = go (next.first == g.first + g.count) refl h
  where
    go : (t : Bool) → next.first == g.first + g.count ≡ t → (if◌then◌else◌ {A = Result Span (Span × Span)} t (Ok (span g.first (g.count + next.count))) (Err (g, next))) ≡ Ok whole → members whole ≡ members g ++ members next
    go true test is = let same : whole ≡ span g.first (g.count + next.count) = cc in ap members same ∙ follow-members g next (grind (arith, nat_tests))
    go false test is = cc
