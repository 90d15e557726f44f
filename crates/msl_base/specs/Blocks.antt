-- How n elements lie in b blocks: block j is the places from `begin n b j` up to but without `begin n b (j + 1)`.
use Rattle.std.specs.Prelude.{◌≡◌, ℕ, ◌+◌, ◌*◌, ◌/◌, ◌%◌, ◌<◌, ◌≤◌, nat_lt, min}
use Rattle.std.specs.List.{position_or_len, range_with_len}

abbrev pub begin : ℕ → ℕ → ℕ → ℕ
begin n b j = j * (n / b) + min j (n % b)

-- place i is one of block j
abbrev pub IsInBlock : ℕ → ℕ → ℕ → ℕ → Type 0
IsInBlock n b j i = (begin n b j ≤ i) × (i < begin n b (j + 1))

-- in which of b blocks place i of n lies
abbrev pub block_of : ℕ → ℕ → ℕ → ℕ
block_of n b i = position_or_len (λ j. nat_lt i (begin n b (j + 1))) (range_with_len 0 b)

-- The blocks lie side by side from the first place to the last, each has n / b elements or one more, and each place is in one.
pub record AreTiles (n b : ℕ) : Type 0 where
  pub first : begin n b 0 ≡ 0
  pub last : begin n b b ≡ n
  pub least : (j : ℕ) → j < b → begin n b j + n / b ≤ begin n b (j + 1)
  pub most : (j : ℕ) → j < b → begin n b (j + 1) ≤ begin n b j + n / b + 1
  pub each : (i : ℕ) → i < n → (j : ℕ) × (j < b) × IsInBlock n b j i
