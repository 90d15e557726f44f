-- Operations element by element: their values, or the fault of the least position.
use Rattle.std.proofs.Common.{◌≡◌, ◌≢◌, ◌<◌, ℕ, zero, suc, ℤ, pos, List, [], ◌∷◌, length, get_or, map, Result, Ok, Err, IsOk, refl, sym, subst, ap, ◌∙◌, arith}
use Rattle.std.proofs.lemmas.List.FromFn.{length-map-range_with_len, get_or-map-range_with_len}
use Rattle.msl_base.specs.declared.fault.Fault.{Fault}
use Rattle.msl_base.specs.declared.fault.Fault.TheVariants.{Shape}
use Rattle.msl_lists.specs.Whole.{◌>>=◌, collect, each, at, below, if_same_length}
use Rattle.msl_lists.specs.WholeLaws.{IsEach, IsEachPair}
use Rattle.std.proofs.lemmas.Bool.Decides.{nat_tests}

-- one more position in front
each_cons : (n : ℕ) (f : ℕ → Result ℤ Fault) (r : Result ℤ Fault) (rest : Result (List ℤ) Fault) → f 0 ≡ r → IsEach n (λ i. f (suc i)) rest
    → IsEach (suc n) f (r >>= λ x. rest >>= λ xs. Ok (x ∷ xs))
each_cons n f (Err e) rest p h = (0, omega arith, p, λ k lt. absurd (omega arith))
each_cons n f (Ok x) (Ok xs) p h = (ap suc h.0, here)
  where
    here : (i : ℕ) → i < suc n → f i ≡ Ok (at (x ∷ xs) i)
    here zero lt = p
    here (suc i) lt = h.1 i (omega arith)
each_cons n f (Ok x) (Err e) p h = (suc h.0, omega (arith, h.1), h.2, before)
  where
    before : (k : ℕ) → k < suc h.0 → IsOk (f k)
    before zero lt = let P : Result ℤ Fault → Type 0 = λ r. IsOk r in subst P (sym p) refl
    before (suc k) lt = h.3 k (omega arith)

collect_is : (rs : List (Result ℤ Fault)) → IsEach (length rs) (λ i. get_or rs i (Ok (pos 0))) (collect rs)
collect_is [] = (refl, λ i lt. absurd (omega arith))
collect_is (r ∷ rs) = each_cons (length rs) (λ i. get_or (r ∷ rs) i (Ok (pos 0))) r (collect rs) refl (collect_is rs)

-- the same of functions that are the same below
each_same : (n m : ℕ) (f g : ℕ → Result ℤ Fault) (r : Result (List ℤ) Fault) → m ≡ n → ((i : ℕ) → i < n → g i ≡ f i) → IsEach m f r → IsEach n g r
each_same n m f g (Ok ys) e same h = (h.0 ∙ e, λ i lt. same i lt ∙ h.1 i (omega arith))
each_same n m f g (Err x) e same h =
    let lt : h.0 < n = omega (arith, h.1) in
    let P : Result ℤ Fault → Type 0 = λ r. IsOk r in
    (h.0, lt, same h.0 lt ∙ h.2, λ k before. subst P (sym (same k (omega arith))) (h.3 k before))

pub each_is : (n : ℕ) (f : ℕ → Result ℤ Fault) → IsEach n f (each n f)
each_is n f = each_same n (length (map f (below n))) (λ i. get_or (map f (below n)) i (Ok (pos 0))) f (each n f)
    (length-map-range_with_len f 0 n) (λ i lt. sym (get_or-map-range_with_len f 0 n i i (Ok (pos 0)) lt (omega arith))) (collect_is (map f (below n)))

pub each_as : (n : ℕ) (f g : ℕ → Result ℤ Fault) → ((i : ℕ) → i < n → g i ≡ f i) → IsEach n g (each n f)
each_as n f g same = each_same n n f g (each n f) refl same (each_is n f)

-- ---- of two lists

same_length : (stage : ℕ) (a c : List ℤ) (r : Result (List ℤ) Fault) → length c ≡ length a → if_same_length stage a c r ≡ r
same_length stage a c r h = grind (arith, nat_tests)

other_length : (stage : ℕ) (a c : List ℤ) (r : Result (List ℤ) Fault) → length c ≢ length a → if_same_length stage a c r ≡ Err (Shape stage (length c) (length a))
other_length stage a c r h = grind (arith, nat_tests)

pub each_pair : (stage : ℕ) (a c : List ℤ) (f : ℕ → Result ℤ Fault) → IsEachPair stage a c f (if_same_length stage a c (each (length a) f))
each_pair stage a c f = (
  λ h.
      let P : Result (List ℤ) Fault → Type 0 = λ r. IsEach (length a) f r in
      subst P (sym (same_length stage a c (each (length a) f) h)) (each_is (length a) f),
  other_length stage a c (each (length a) f),
)
