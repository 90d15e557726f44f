-- Paths as numbers.
use Rattle.std.proofs.Common.{IsNone, IfSome, ◌↔◌, le-leb, ◌≡◌, ◌≢◌, ◌<◌, ◌≤◌, ◌+◌, ◌*◌, ◌/◌, ◌%◌, ◌^◌, ◌⊎◌, inl, inr, ℕ, suc, List, [], ◌∷◌, ◌++◌, Option, Some, None, fold, take, length, get_or, nat_le, refl, sym, ap, ◌∙◌, subst, arith, length-append}
use Rattle.std.proofs.Math.Nat.{div-lt_self, mul-le-mul_left, mul-le-mul_right, mod-lt, div-add-mod}
use Rattle.std.proofs.Math.Pow.{pow_mono}
use Rattle.std.proofs.lemmas.Bool.{cases_lt, cond-true}
use Rattle.std.proofs.lemmas.List.{take_more, length-take-le}
use Rattle.std.proofs.lemmas.List.Elements.{All-nil, All-head, All-tail, All-take, All-push, All-pop}
use Rattle.std.proofs.lemmas.List.Sums.{fold-append}
use Rattle.std.proofs.lemmas.Nat.{pow-add, pow_pos, div-mul-add}
use Rattle.msl_base.specs.Codes.{code, AreFields, HasCode, code_of, Decodes}

-- a list that has a last element
pub record Ends (xs : List ℕ) : Type 0 where
  pub front : List ℕ
  pub last : ℕ
  pub is : xs ≡ front ++ last ∷ []

pub ends : (x : ℕ) (xs : List ℕ) → Ends (x ∷ xs)
ends x [] = record { front = []; last = x; is = refl }
ends x (y ∷ ys) = let e = ends y ys in record { front = x ∷ e.front; last = e.last; is = ap (λ (t : List ℕ). x ∷ t) e.is }

module _ (bits : ℕ) where
  -- the number that goes on from another by these steps
  abbrev from : ℕ → List ℕ → ℕ
  from a path = fold (λ c j. c * 2 ^ bits + j) a path

  one_more : (n : ℕ) → 2 ^ (suc n * bits) ≡ 2 ^ bits * 2 ^ (n * bits)
  one_more n = ap (λ (k : ℕ). 2 ^ k) (omega arith) ∙ pow-add 2 bits (n * bits)

  scaled_by_one : (a : ℕ) → a * 2 ^ (length {A = ℕ} [] * bits) ≡ a
  scaled_by_one a = let none : length {A = ℕ} [] * bits ≡ 0 = omega arith in ap (λ (k : ℕ). a * 2 ^ k) none ∙ omega arith

  least : (a : ℕ) (path : List ℕ) → a * 2 ^ (length path * bits) ≤ from a path
  least a [] = let none : from a [] ≡ a = refl in omega (arith, none, scaled_by_one a)
  least a (j ∷ path) = let scaled = ap (λ (p : ℕ). a * p) (one_more (length path)) in omega (arith, scaled, least (a * 2 ^ bits + j) path)

  most : (a : ℕ) (path : List ℕ) → AreFields bits path → from a path < (a + 1) * 2 ^ (length path * bits)
  most a [] h = let none : from a [] ≡ a = refl in omega (arith, none, scaled_by_one (a + 1))
  most a (j ∷ path) h =
      let power = one_more (length path) in
      let scaled = ap (λ (p : ℕ). a * p) power in
      let below : j + 1 ≤ 2 ^ bits = omega (arith, All-head (λ (step : ℕ). step < 2 ^ bits) j path h) in
      let wide = mul-le-mul_right (2 ^ (length path * bits)) below in
      omega (arith, power, scaled, wide, most (a * 2 ^ bits + j) path (All-tail (λ (step : ℕ). step < 2 ^ bits) j path h))

  same : (a b : ℕ) (p q : List ℕ) → length p ≡ length q → AreFields bits p → AreFields bits q → from a p ≡ from b q → (a ≡ b) × (p ≡ q)
  same a b [] [] long h k e = (e, refl)
  same a b [] (y ∷ q) long h k e = absurd (omega (arith, long))
  same a b (x ∷ p) [] long h k e = absurd (omega (arith, long))
  same a b (x ∷ p) (y ∷ q) long h k e =
      let P = λ (step : ℕ). step < 2 ^ bits in
      let rest = same (a * 2 ^ bits + x) (b * 2 ^ bits + y) p q (omega (arith, long)) (All-tail P x p h) (All-tail P y q k) e in
      let starts : a ≡ b =
      sym (div-mul-add a (2 ^ bits) x (All-head P x p h)) ∙ ap (λ (n : ℕ). n / 2 ^ bits) rest.0 ∙ div-mul-add b (2 ^ bits) y (All-head P y q k) in
      let steps : x ≡ y = omega (arith, rest.0, ap (λ (n : ℕ). n * 2 ^ bits) starts) in
      (starts, ap (λ (z : ℕ). z ∷ p) steps ∙ ap (λ (t : List ℕ). y ∷ t) rest.1)

  not_shorter : 1 ≤ bits → (p q : List ℕ) → AreFields bits p → code bits p ≡ code bits q → length p < length q → ⊥
  not_shorter some p q h e lt =
      let two : 2 ^ 1 ≤ 2 ^ bits = pow_mono some in
      let doubled = mul-le-mul_right (2 ^ (length p * bits)) two in
      let longer : suc (length p) * bits ≤ length q * bits = mul-le-mul_right bits lt in
      omega (arith, e, most 1 p h, least 1 q, one_more (length p), doubled, pow_mono longer)

  -- no two paths have one code
  pub code_distinct : 1 ≤ bits → (p q : List ℕ) → AreFields bits p → AreFields bits q → code bits p ≡ code bits q → p ≡ q
  code_distinct some p q h k e =
      let shorter = not_shorter some p q h e in
      let longer = not_shorter some q p k (sym e) in
      (same 1 1 p q (omega (arith, shorter, longer)) h k e).1

  -- a code has one bit more than its fields
  pub code_above : (path : List ℕ) → 2 ^ (length path * bits) ≤ code bits path
  code_above path = omega (arith, least 1 path)

  pub code_below : (path : List ℕ) → HasCode bits path → code bits path < 2 ^ 57
  code_below path h = let wide : 2 ^ (length path * bits) ≤ 2 ^ 56 = pow_mono h.fits in omega (arith, most 1 path h.steps, wide)

  pub code_pushed : (path : List ℕ) (j : ℕ) → code bits (path ++ j ∷ []) ≡ code bits path * 2 ^ bits + j
  code_pushed path j = fold-append (λ c j. c * 2 ^ bits + j) 1 path (j ∷ [])

  -- the front of a path, and its next step
  pub code_next : (path : List ℕ) (k : ℕ) → k < length path → code bits (take (k + 1) path) ≡ code bits (take k path) * 2 ^ bits + get_or path k 0
  code_next path k lt = ap (code bits) (take_more path k 0 lt) ∙ code_pushed (take k path) (get_or path k 0)

  pub code_fits : (path : List ℕ) (k : ℕ) → HasCode bits path → k < length path → code bits (take k path) * 2 ^ bits + get_or path k 0 < 2 ^ 57
  code_fits path k h lt =
      let shorter : (k + 1) * bits ≤ length path * bits = mul-le-mul_right bits (omega (arith, lt)) in
      let fits : length (take (k + 1) path) * bits ≤ 56 =
      let same = ap (λ (n : ℕ). n * bits) (length-take-le (k + 1) path (omega (arith, lt))) in omega (arith, same, shorter, h.fits) in
      let steps : AreFields bits (take (k + 1) path) = All-take (λ (step : ℕ). step < 2 ^ bits) (k + 1) path h.steps in
      omega (arith, code_below (take (k + 1) path) (record { steps = steps; fits = fits }), code_next path k lt)

  -- ---- the path with a code

  root_has_code : HasCode bits []
  root_has_code = record { steps = All-nil (λ (step : ℕ). step < 2 ^ bits); fits = (let none : length {A = ℕ} [] * bits ≡ 0 = omega arith in omega (arith, none)) }

  pub root_decodes : Decodes bits 1 (Some [])
  root_decodes = (root_has_code, refl)

  -- the leading 1 stands in no field, and has all fields behind it
  pub none_between : (c : ℕ) → 1 ≤ bits → c ≢ 1 → c < 2 ^ bits → Decodes bits c None
  none_between c some other small [] h e = other (sym e)
  none_between c some other small (j ∷ path) h e =
      let one : 1 * bits ≤ length (j ∷ path) * bits = mul-le-mul_right bits (omega arith) in
      let wide : 2 ^ bits ≤ 2 ^ (length (j ∷ path) * bits) = pow_mono (omega (arith, one)) in
      omega (arith, wide, code_above (j ∷ path), e, small)

  pub none_above : (c : ℕ) → 2 ^ 57 ≤ c → Decodes bits c None
  none_above c great path h e = omega (arith, code_below path h, e, great)

  module _ (some : 1 ≤ bits) (c : ℕ) (large : 2 ^ bits ≤ c) where
    -- all but the last step
    front_has_code : (path : List ℕ) (j : ℕ) → HasCode bits (path ++ j ∷ []) → HasCode bits path
    front_has_code path j h = record {
      steps = (All-pop (λ (step : ℕ). step < 2 ^ bits) (path ++ j ∷ []) path (Some j) refl h.steps).0;
      fits = (let longer : length path * bits ≤ length (path ++ j ∷ []) * bits = mul-le-mul_right bits (omega (arith, length-append path (j ∷ []))) in omega (arith, longer, h.fits));
    }

    pub none_further : Decodes bits (c / 2 ^ bits) None → Decodes bits c None
    none_further none [] h e = let two : 2 ^ 1 ≤ 2 ^ bits = pow_mono some in omega (arith, two, e, large)
    none_further none (x ∷ xs) h e =
        let end = ends x xs in
        let parts : HasCode bits (end.front ++ end.last ∷ []) = subst (HasCode bits) end.is h in
        let below : end.last < 2 ^ bits = (All-pop (λ (step : ℕ). step < 2 ^ bits) (end.front ++ end.last ∷ []) end.front (Some end.last) refl parts.steps).1 in
        let is : c ≡ code bits end.front * 2 ^ bits + end.last = sym e ∙ ap (code bits) end.is ∙ code_pushed end.front end.last in
        none end.front (front_has_code end.front end.last parts) (sym (div-mul-add (code bits end.front) (2 ^ bits) end.last below) ∙ ap (λ (n : ℕ). n / 2 ^ bits) (sym is))

    pub one_further : (path : List ℕ) → c < 2 ^ 57 → Decodes bits (c / 2 ^ bits) (Some path) → Decodes bits c (Some (path ++ c % 2 ^ bits ∷ []))
    one_further path small (h, e) =
        let longer = path ++ c % 2 ^ bits ∷ [] in
        let is : code bits longer ≡ c =
        code_pushed path (c % 2 ^ bits) ∙ ap (λ (n : ℕ). n * 2 ^ bits + c % 2 ^ bits) e ∙ omega (arith, div-add-mod c (2 ^ bits)) in (
          record {
            steps = All-push (λ (step : ℕ). step < 2 ^ bits) path (c % 2 ^ bits) h.steps (mod-lt c (pow_pos bits));
            fits = fits_by (length longer * bits) (omega (arith, code_above longer, is, small));
          },
          is,
        )
      where
        fits_by : (n : ℕ) → 2 ^ n < 2 ^ 57 → n ≤ 56
        fits_by n lt = go (cases_lt n 57)
          where
            go : (n < 57) ⊎ (57 ≤ n) → n ≤ 56
            go (inl few) = omega (arith, few)
            go (inr many) = let wide : 2 ^ 57 ≤ 2 ^ n = pow_mono many in absurd (omega (arith, lt, wide))

    pub pushed_decodes : (parent : List ℕ) (found : Option (List ℕ)) → c < 2 ^ 57 → Decodes bits (c / 2 ^ bits) (Some parent) → (IsNone found ↔ (length parent ≡ 64))
        → IfSome found (λ path. path ≡ parent ++ c % 2 ^ bits ∷ []) → Decodes bits c found
    pushed_decodes parent None small (h, e) full is =
        let long : length parent ≡ 64 = full.0 refl in
        let wide : 64 * 1 ≤ 64 * bits = mul-le-mul_left 64 some in
        absurd (omega (arith, h.fits, ap (λ (n : ℕ). n * bits) long, wide))
    pushed_decodes parent (Some path) small d full is = subst (λ (t : List ℕ). Decodes bits c (Some t)) (sym is) (one_further parent small d)

    pub front_smaller : c / 2 ^ bits < c
    front_smaller = let two : 2 ^ 1 ≤ 2 ^ bits = pow_mono some in div-lt_self (omega (arith, two, large)) (omega (arith, two))

  -- ---- each undoes the other

  pub code_positive : (path : List ℕ) → 0 < code bits path
  code_positive path = omega (arith, code_above path, pow_pos (length path * bits))

  pub read_back : 1 ≤ bits → (path : List ℕ) (found : Option (List ℕ)) → HasCode bits path → Decodes bits (code bits path) found → found ≡ Some path
  read_back some path None h none = absurd (none path h refl)
  read_back some path (Some other) h (k, e) = ap (λ (t : List ℕ). Some t) (code_distinct some other path k.steps h.steps e)

  pub made_back : (c : ℕ) (path : List ℕ) → Decodes bits c (Some path) → code_of bits path ≡ Some c
  made_back c path (h, e) = cond-true (nat_le (length path * bits) 56) (Some (code bits path)) None (le-leb (length path * bits) 56 h.fits) ∙ ap (λ (n : ℕ). Some n) e
