-- Blocks follow one another.
use Rattle.std.proofs.Common.{◌≡◌, ◌≤◌, ◌+◌, ◌/◌, ℕ, arith}
use Rattle.std.proofs.lemmas.Nat.{mul-le}
use Rattle.msl_base.specs.Blocks.{begin}

pub begin_next : (n b j : ℕ) → begin n b j ≤ begin n b (j + 1)
begin_next n b j = let scaled = mul-le j (n / b) (j + 1) (n / b) (omega arith) (omega arith) in omega arith

pub begin_first : (n b : ℕ) → begin n b 0 ≡ 0
begin_first n b = omega arith

pub begin_last : (n b : ℕ) → 1 ≤ b → begin n b b ≡ n
begin_last n b some = omega arith

pub begin_within : (n b j : ℕ) → 1 ≤ b → j ≤ b → begin n b j ≤ n
begin_within n b j some few = let scaled = mul-le j (n / b) b (n / b) few (omega arith) in omega (arith, begin_last n b some)
