-- Lists of outcomes, put together from those of parts.
use Rattle.std.proofs.Common.{◌≡◌, ◌<◌, ◌≤◌, ◌+◌, ◌-◌, ℕ, zero, suc, ℤ, List, [], ◌∷◌, ◌++◌, length, slice_index_or, pos, Result, Ok, Err, refl, sym, ap, ap₂, subst, ◌∙◌, arith}
use Rattle.std.specs.List.{flat_map}
use Rattle.std.specs.Result.{is_ok}
use Rattle.std.specs.Global.{Vec}
use Rattle.msl_base.specs.declared.fault.Fault.{Fault}
use Rattle.msl_base.specs.declared.answer.Halt.{Halt}
use Rattle.msl_base.specs.declared.answer.Halt.TheVariants as halt
use Rattle.msl_lists.specs.Whole.{each}
use Rattle.msl_lists.specs.WholeLaws.{both}
use Rattle.msl_lists.proofs.WholeParts.{each_parts, each_congruent}
use Rattle.msl_lists.proofs.WholeEach.{each_is}
use Rattle.msl_lists.proofs.WholeUnique.{one_each}
use Rattle.msl_side.specs.Places.{Led}
use Rattle.msl_local.specs.Outcomes.{part, Comes, ComesTo, Stops}

module _ (f : ℕ → Result ℤ Fault) where
  -- ---- two parts side by side

  pub split : (a n m b k : ℕ) → a + n ≡ b → n + m ≡ k → part f a k ≡ both (part f a n) (part f b m)
  split a n m b k e t =
      let shifted : part f b m ≡ each m (λ i. f (a + (n + i))) = each_congruent m (λ i. f (b + i)) (λ i. f (a + (n + i))) (λ i lt. ap f (omega (arith, e))) in
      ap (part f a) (sym t) ∙ each_parts n m (λ i. f (a + i)) ∙ ap (λ (q : Result (List ℤ) Fault). both (part f a n) q) (sym shifted)

  pub part_ok : (a n m b k : ℕ) (p q : List ℤ) → a + n ≡ b → n + m ≡ k → part f a n ≡ Ok p → part f b m ≡ Ok q → part f a k ≡ Ok (p ++ q)
  part_ok a n m b k p q e t h i = split a n m b k e t ∙ ap₂ (λ (x y : Result (List ℤ) Fault). both x y) h i

  pub part_first : (a n m k : ℕ) (e : Fault) → n + m ≡ k → part f a n ≡ Err e → part f a k ≡ Err e
  part_first a n m k e t h = split a n m (a + n) k refl t ∙ ap (λ (x : Result (List ℤ) Fault). both x (part f (a + n) m)) h

  pub part_later : (a n m b k : ℕ) (p : List ℤ) (e : Fault) → a + n ≡ b → n + m ≡ k → part f a n ≡ Ok p → part f b m ≡ Err e → part f a k ≡ Err e
  part_later a n m b k p e w t h i = split a n m b k w t ∙ ap₂ (λ (x y : Result (List ℤ) Fault). both x y) h i

  here : (i : ℕ) → f (i + 0) ≡ f i
  here i = ap f (omega arith)

  pub one_ok : (i : ℕ) (y : ℤ) → f i ≡ Ok y → part f i 1 ≡ Ok (y ∷ [])
  one_ok i y h = let e = here i ∙ h in rw e refl

  pub one_err : (i : ℕ) (e : Fault) → f i ≡ Err e → part f i 1 ≡ Err e
  one_err i e h = let w = here i ∙ h in rw w refl

  pub whole : (n : ℕ) → part f 0 n ≡ each n f
  whole n = each_congruent n (λ i. f (0 + i)) f (λ i lt. ap f (omega arith))

  -- ---- many places side by side: place i has the outcomes from s i up to s (i + 1)

  rises : (s : ℕ → ℕ) → ((i : ℕ) → s i ≤ s (i + 1)) → (n : ℕ) → s 0 ≤ s n
  rises s up zero = omega arith
  rises s up (suc n) = let e : s (n + 1) ≡ s (suc n) = ap s (omega arith) in omega (arith, rises s up n, up n, e)

  later : (s : ℕ → ℕ) → ((i : ℕ) → s i ≤ s (i + 1)) → (i : ℕ) → s (suc i) ≤ s (suc (i + 1))
  later s up i = let e : s (suc i + 1) ≡ s (suc (i + 1)) = ap s (omega arith) in let d : s (suc i) ≤ s (suc i + 1) = up (suc i) in omega (arith, d, e)

  parts_err : (s : ℕ → ℕ) → ((i : ℕ) → s i ≤ s (i + 1)) → (n i : ℕ) (e : Fault) → i < n
      → part f (s i) (s (i + 1) - s i) ≡ Err e
      → ((k : ℕ) → k < i → (y : List ℤ) × (part f (s k) (s (k + 1) - s k) ≡ Ok y))
      → part f (s 0) (s n - s 0) ≡ Err e
  parts_err s up zero i e lt bad before = absurd (omega (arith, lt))
  parts_err s up (suc n) zero e lt bad before =
      let a : s 0 ≤ s 1 = up 0 in
      let b : s 1 ≤ s (suc n) = rises (λ i. s (suc i)) (later s up) n in
      part_first (s 0) (s 1 - s 0) (s (suc n) - s 1) _ e (omega (arith, a, b)) bad
  parts_err s up (suc n) (suc i) e lt bad before =
      let t : ℕ → ℕ = λ i. s (suc i) in
      let a : s 0 ≤ s 1 = up 0 in
      let b : s 1 ≤ s (suc n) = rises t (later s up) n in
      let shift : (k : ℕ) → s (suc k + 1) ≡ s (suc (k + 1)) = λ k. ap s (omega arith) in
      let y = before 0 (omega arith) in
      let rest : part f (s 1) (s (suc n) - s 1) ≡ Err e = parts_err t (later s up) n i e (omega (arith, lt))
      (subst (λ z. part f (s (suc i)) (z - s (suc i)) ≡ Err e) (shift i) bad)
      (λ k lt'. let z = before (suc k) (omega (arith, lt')) in (z.0, subst (λ z'. part f (s (suc k)) (z' - s (suc k)) ≡ Ok z.0) (shift k) z.1)) in
      part_later (s 0) (s 1 - s 0) (s (suc n) - s 1) (s 1) _ y.0 e (omega (arith, a)) (omega (arith, a, b)) y.1 rest

  module _ {X : Type 0} (items : X → List ℤ) where
    parts_ok : (s : ℕ → ℕ) → ((i : ℕ) → s i ≤ s (i + 1)) → (vs : List X)
        → ((i : ℕ) (d : X) → i < length vs → part f (s i) (s (i + 1) - s i) ≡ Ok (items (slice_index_or vs i d)))
        → part f (s 0) (s (length vs) - s 0) ≡ Ok (flat_map items vs)
    parts_ok s up [] each = let e : s 0 - s 0 ≡ 0 = omega arith in subst (λ z. part f (s 0) z ≡ Ok []) (sym e) refl
    parts_ok s up (v ∷ vs) each =
        let first : part f (s 0) (s 1 - s 0) ≡ Ok (items v) = each 0 v (omega arith) in
        let t : ℕ → ℕ = λ i. s (suc i) in
        let rest : part f (s 1) (s (suc (length vs)) - s 1) ≡ Ok (flat_map items vs) = parts_ok t (later s up) vs (λ i d lt.
        let e : s (suc i + 1) ≡ s (suc (i + 1)) = ap s (omega arith) in
        subst (λ z. part f (s (suc i)) (z - s (suc i)) ≡ Ok (items (slice_index_or vs i d))) e (each (suc i) d (omega (arith, lt)))) in
        let a : s 0 ≤ s 1 = up 0 in
        let b : s 1 ≤ s (suc (length vs)) = rises t (later s up) (length vs) in
        part_ok (s 0) (s 1 - s 0) (s (suc (length vs)) - s 1) (s 1) _ (items v) (flat_map items vs) (omega (arith, a)) (omega (arith, a, b)) first rest

    -- the list that is wanted, or its halt
    abbrev pub ComesBy : Result (List ℤ) Fault → Result X Halt → Type 0
    ComesBy want (Ok x) = want ≡ Ok (items x)
    ComesBy want (Err h) = Stops want h

    abbrev pub ComesByAll : Result (List ℤ) Fault → Result (Vec X) Halt → Type 0
    ComesByAll want (Ok v) = want ≡ Ok (flat_map items v.items)
    ComesByAll want (Err h) = Stops want h

    -- what places give, each its part, is the whole
    pub led_whole : (s : ℕ → ℕ) → ((i : ℕ) → s i ≤ s (i + 1)) → (n len : ℕ) → s 0 ≡ 0 → s n ≡ len
        → (gives : ℕ → Result X Halt → Type 0) (r : Result (Vec X) Halt) → Led gives n r
        → ((i : ℕ) (q : Result X Halt) → i < n → gives i q → ComesBy (part f (s i) (s (i + 1) - s i)) q)
        → ComesByAll (each len f) r
    led_whole s up n len first last gives (Ok v) h means =
        let all = parts_ok s up v.items (λ i d lt. means i (Ok (slice_index_or v.items i d)) (omega (arith, lt, h.0)) (h.1 i d (omega (arith, lt, h.0)))) in
        let from : part f (s 0) (s (length v.items) - s 0) ≡ part f 0 len = ap₂ (part f) first (omega (arith, first, last, ap s h.0)) in
        sym (whole len) ∙ sym from ∙ all
    led_whole s up n len first last gives (Err halt.NoMemory) h means = tt
    led_whole s up n len first last gives (Err (halt.Fault e)) h means =
        let all = parts_err s up n h.0 e h.1 (means h.0 (Err (halt.Fault e)) h.1 h.2)
        (λ k lt. let y = h.3 k lt in (items y.0, means k (Ok y.0) (omega (arith, lt, h.1)) y.1)) in
        let from : part f (s 0) (s n - s 0) ≡ part f 0 len = ap₂ (part f) first (omega (arith, first, last)) in
        sym (whole len) ∙ sym from ∙ all

  -- one outcome at each place
  pub led_each : (first n : ℕ) (gives : ℕ → Result ℤ Halt → Type 0) (r : Result (Vec ℤ) Halt) → Led gives n r
      → ((i : ℕ) (q : Result ℤ Halt) → i < n → gives i q → ComesTo (f (first + i)) q) → Comes (part f first n) r
  led_each first n gives (Ok v) h means =
      one_each n (λ i. f (first + i)) _ (Ok v.items) (each_is n (λ i. f (first + i))) (h.0, λ i lt. means i (Ok (slice_index_or v.items i (pos 0))) lt (h.1 i (pos 0) lt))
  led_each first n gives (Err halt.NoMemory) h means = tt
  led_each first n gives (Err (halt.Fault e)) h means =
      one_each n (λ i. f (first + i)) _ (Err e) (each_is n (λ i. f (first + i)))
      (h.0, h.1, means h.0 (Err (halt.Fault e)) h.1 h.2, λ k lt. let y = h.3 k lt in ap is_ok (means k (Ok y.0) (omega (arith, lt, h.1)) y.1))
