-- The greatest common divisor by Euclid's algorithm. `gcd_is` says in the field's words what it is.
use Rattle.std.specs.Prelude.{ℕ, zero, suc, ◌%◌, ◌<◌}
use Rattle.std.specs.Int.{IsGcd}
use Rattle.std.proofs.Common.{arith, mod-lt, zero-lt-suc, lt-suc_self, refl}
use Rattle.std.proofs.lemmas.Nat.Gcd.{IsGcd-from_zero, IsGcd-from_mod}

-- in at most so many steps; one more than the second number are enough
abbrev pub gcd_in : ℕ → ℕ → ℕ → ℕ
gcd_in zero a b = a
gcd_in (suc n) a zero = a
gcd_in (suc n) a (suc b) = gcd_in n (suc b) (a % suc b)

abbrev pub gcd : ℕ → ℕ → ℕ
gcd a b = gcd_in (suc b) a b

gcd_in_is : (n a b : ℕ) → b < n → IsGcd a b (gcd_in n a b)
gcd_in_is zero a b h = absurd (omega arith)
gcd_in_is (suc n) a zero h = IsGcd-from_zero a zero refl
gcd_in_is (suc n) a (suc b) h = IsGcd-from_mod a (suc b) (gcd_in n (suc b) (a % suc b)) (gcd_in_is n (suc b) (a % suc b) (omega (arith, mod-lt a (zero-lt-suc b))))

-- it divides both, and every common divisor divides it
pub gcd_is : (a b : ℕ) → IsGcd a b (gcd a b)
gcd_is a b = gcd_in_is (suc b) a b (lt-suc_self b)
