use Rattle.std.proofs.Common.{suc, ◌≡◌, ◌+◌, ◌-◌, ◌*◌, ◌/◌, ◌%◌, ◌<◌, ℤ, pos, negsuc, neg_ℤ, ◌+ℤ◌, ◌*ℤ◌, ◌≤ℤ◌, ◌<ℤ◌, ap, ◌∙◌, sym, arith, mod-lt, div-add-mod', suc-mul}
use Rattle.std.specs.Int.{int_rem_euclid}
use Rattle.std.proofs.Math.IntN.{negsuc-*ℤ-pos}
use Rattle.std.proofs.lemmas.Int.{ints}
use Rattle.msl_ops.proofs.laws.remainders.Goals as goal

least : (x m : ℤ) → pos 1 ≤ℤ m → pos 0 ≤ℤ int_rem_euclid x m
least (pos a) m h = omega (arith, ints)
least (negsuc a) m h = omega (arith, ints)

most : (x m : ℤ) → pos 1 ≤ℤ m → int_rem_euclid x m <ℤ m
most (pos a) (pos n) h = let some : 0 < n = omega (arith, ints) in let below = mod-lt a some in omega (arith, ints)
most (negsuc a) (pos n) h = omega (arith, ints)
most x (negsuc n) h = absurd (omega (arith, ints))

multiple : (x m : ℤ) → pos 1 ≤ℤ m → (q : ℤ) × (x ≡ (q *ℤ m) +ℤ int_rem_euclid x m)
multiple (pos a) (pos n) h = (pos (a / n), ap pos (sym (div-add-mod' a n)))
multiple (negsuc a) (pos n) h =
    let some : 0 < n = omega (arith, ints) in
    let below = mod-lt a some in
    let whole = div-add-mod' a n in
    let size : suc (a / n) * n ≡ suc a + (n - 1 - a % n) = omega (arith, suc-mul (a / n) n, below, whole) in
    let same : negsuc a ≡ neg_ℤ (pos (suc a + (n - 1 - a % n))) +ℤ pos (n - 1 - a % n) = omega (arith, ints) in
    (negsuc (a / n), same ∙ ap (λ k. neg_ℤ (pos k) +ℤ pos (n - 1 - a % n)) (sym size) ∙ ap (λ z. z +ℤ pos (n - 1 - a % n)) (sym (negsuc-*ℤ-pos (a / n) n)))
multiple x (negsuc n) h = absurd (omega (arith, ints))

pub returns-clause-least : goal.returns-clause-least
returns-clause-least c = least

pub returns-clause-most : goal.returns-clause-most
returns-clause-most c = most

pub returns-clause-multiple : goal.returns-clause-multiple
returns-clause-multiple c = multiple
