-- How long a number is in decimal.
use Rattle.std.proofs.Common.{arith, ◌≡◌, ℕ, zero, suc, ◌+◌, ◌*◌, ◌/◌, ◌%◌, ◌^◌, ◌<◌, ◌≤◌, [], ◌∷◌, length, ap, length-append}
use Rattle.std.proofs.lemmas.Fmt.{decimal_digit, decimal_step}
use Rattle.std.specs.Fmt.{decimal}

-- the digits of a number between two powers of ten
pub length-decimal : (k n : ℕ) → 10 ^ k ≤ n → n < 10 * 10 ^ k → n < 2 ^ 64 → length (decimal n) ≡ k + 1
length-decimal zero n low high fits = ap length (decimal_digit n high)
length-decimal (suc k) n low high fits =
    let rest : length (decimal (n / 10)) ≡ k + 1 = length-decimal k (n / 10) (omega arith) (omega arith) (omega arith) in
    omega (arith, ap length (decimal_step n (omega arith) fits), length-append (decimal (n / 10)) ((48 + n % 10) ∷ []), rest)
