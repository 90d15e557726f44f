-- How many numbers records have, and their sum: the order of the records doesn't count.
use Rattle.std.proofs.Common.{arith, ◌≡◌, ℕ, suc, ◌+◌, ◌*◌, ℤ, pos, negsuc, ◌+ℤ◌, ◌-ℤ◌, List, [], ◌∷◌, ◌++◌, length, refl, sym, ap, ◌∙◌, append-nil, length-append}
use Rattle.std.proofs.lemmas.Int.{ints}
use Rattle.std.proofs.lemmas.List.Concat.{length-flat_map, flat_map-append}
use Rattle.std.proofs.lemmas.List.Elements.{recursion_from_All}
use Rattle.std.proofs.lemmas.List.Sorted.{sum_by-IsPermutation}
use Rattle.std.proofs.lemmas.List.Sums.{fold-append, sum_by-cons, sum_by-append}
use Rattle.std.specs.List.{AllByRecursion, fold, sum_by}
use Rattle.std.specs.Prelude.{All, ◌≤ℤ◌, IsPermutation}
use Rattle.msl_base.specs.Streams.{Record}
use Rattle.msl_demo_laws.specs.Demo.{numbers, total}
use Rattle.msl_demo_laws.specs.Results.{IsSmall, IsResult}

-- a number above 0, and one below
abbrev pub plus : ℤ → ℕ
plus (pos n) = n
plus (negsuc n) = 0

abbrev pub minus : ℤ → ℕ
minus (pos n) = 0
minus (negsuc n) = suc n

both_parts : (z : ℤ) → z ≡ pos (plus z) -ℤ pos (minus z)
both_parts (pos n) = omega (arith, ints)
both_parts (negsuc n) = omega (arith, ints)

total_from : (s : ℤ) (zs : List ℤ) → fold ◌+ℤ◌ s zs ≡ (s +ℤ pos (sum_by plus zs)) -ℤ pos (sum_by minus zs)
total_from s [] = omega (arith, ints)
total_from s (z ∷ zs) =
    omega (arith, ints, total_from (s +ℤ z) zs, sum_by-cons plus z zs, sum_by-cons minus z zs, both_parts z)

sum_of_all : (f : ℤ → ℕ) (rs : List Record) → sum_by f (numbers rs) ≡ sum_by (λ (r : Record). sum_by f r) rs
sum_of_all f [] = refl
sum_of_all f (r ∷ rs) = omega (arith, sum_by-append f r (numbers rs), sum_of_all f rs, sum_by-cons (λ (r : Record). sum_by f r) r rs)

pub total_is : (rs : List Record) → total (numbers rs) ≡ pos (sum_by (λ (r : Record). sum_by plus r) rs) -ℤ pos (sum_by (λ (r : Record). sum_by minus r) rs)
total_is rs = omega (arith, ints, total_from (pos 0) (numbers rs), sum_of_all plus rs, sum_of_all minus rs)

module _ (xs ys : List Record) (moved : IsPermutation xs ys) where
  pub total_moved : total (numbers ys) ≡ total (numbers xs)
  total_moved =
      omega (arith, ints, total_is xs, total_is ys, sum_by-IsPermutation (λ (r : Record). sum_by plus r) xs ys moved, sum_by-IsPermutation (λ (r : Record). sum_by minus r) xs ys moved)

  pub count_moved : length (numbers ys) ≡ length (numbers xs)
  count_moved =
      length-flat_map (λ (r : Record). r) ys ∙ sum_by-IsPermutation (λ (r : Record). length r) xs ys moved ∙ sym (length-flat_map (λ (r : Record). r) xs)

-- ---- record by record

pub total-append : (xs ys : List ℤ) → total (xs ++ ys) ≡ total xs +ℤ total ys
total-append xs ys = omega (arith, ints, fold-append ◌+ℤ◌ (pos 0) xs ys, total_from (total xs) ys, total_from (pos 0) ys)

numbers-push : (rs : List Record) (r : Record) → numbers (rs ++ r ∷ []) ≡ numbers rs ++ r
numbers-push rs r = flat_map-append (λ (r : Record). r) rs (r ∷ []) ∙ ap (λ (zs : List ℤ). numbers rs ++ zs) (append-nil r)

pub total-push : (rs : List Record) (r : Record) → total (numbers (rs ++ r ∷ [])) ≡ total (numbers rs) +ℤ total r
total-push rs r = ap total (numbers-push rs r) ∙ total-append (numbers rs) r

pub count-push : (rs : List Record) (r : Record) → length (numbers (rs ++ r ∷ [])) ≡ length (numbers rs) + length r
count-push rs r = ap length (numbers-push rs r) ∙ length-append (numbers rs) r

-- ---- results are small

record IsWithin (zs : List ℤ) : Type 0 where
  low : pos 0 ≤ℤ total zs
  high : total zs ≤ℤ pos (999999 * length zs)

within-append : (xs ys : List ℤ) → IsWithin xs → IsWithin ys → IsWithin (xs ++ ys)
within-append xs ys h k = record {
  low = omega (arith, ints, total-append xs ys, h.low, k.low);
  high = omega (arith, ints, total-append xs ys, length-append xs ys, h.high, k.high);
}

small_within : (zs : List ℤ) → AllByRecursion IsSmall zs → IsWithin zs
small_within [] h = record { low = omega (arith, ints); high = omega (arith, ints) }
small_within (z ∷ zs) h =
    within-append (z ∷ []) zs (record { low = omega (arith, ints, h.0.0); high = omega (arith, ints, h.0.1) }) (small_within zs h.1)

results_within : (rs : List Record) → AllByRecursion IsResult rs → IsWithin (numbers rs)
results_within [] h = record { low = omega (arith, ints); high = omega (arith, ints) }
results_within (r ∷ rs) h = within-append r (numbers rs) (small_within r (recursion_from_All IsSmall r h.0.small)) (results_within rs h.1)

results_count : (rs : List Record) → AllByRecursion IsResult rs → length (numbers rs) ≡ 3 * length rs
results_count [] h = refl
results_count (r ∷ rs) h = omega (arith, length-append r (numbers rs), h.0.three, results_count rs h.1)

pub total_low : (rs : List Record) → All IsResult rs → pos 0 ≤ℤ total (numbers rs)
total_low rs h = (results_within rs (recursion_from_All IsResult rs h)).low

pub total_high : (rs : List Record) → All IsResult rs → total (numbers rs) ≤ℤ pos (2999997 * length rs)
total_high rs h =
    let are = recursion_from_All IsResult rs h in omega (arith, ints, (results_within rs are).high, results_count rs are)
