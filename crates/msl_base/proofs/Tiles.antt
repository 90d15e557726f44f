-- How blocks lie side by side.
use Rattle.std.proofs.Common.{◌≡◌, ◌<◌, ◌≤◌, ◌+◌, ◌/◌, ℕ, zero, suc, true, false, not, nat_lt, length, get_or, ap, arith, inl, inr, ◌⊎◌}
use Rattle.std.proofs.lemmas.Bool.{cases_lt}
use Rattle.std.proofs.lemmas.Bool.Decides.{nat_tests}
use Rattle.std.proofs.lemmas.List.FromFn.{length-range_with_len, get_or-range_with_len}
use Rattle.std.proofs.lemmas.List.Sums.{prefix_len_is}
use Rattle.std.proofs.lemmas.Nat.{mul-le}
use Rattle.std.specs.List.{range_with_len}
use Rattle.msl_base.specs.Blocks.{begin, IsInBlock, AreTiles, block_of}

in_block : (n b i m : ℕ) → m ≤ b → i < begin n b m → (j : ℕ) × (j < b) × IsInBlock n b j i
in_block n b i zero few lt = absurd (omega arith)
in_block n b i (suc m) few lt = go (cases_lt i (begin n b m)) (in_block n b i m (omega arith))
  where
    go : (i < begin n b m) ⊎ (begin n b m ≤ i) → (i < begin n b m → (j : ℕ) × (j < b) × IsInBlock n b j i) → (j : ℕ) × (j < b) × IsInBlock n b j i
    go (inl before) more = more before
    go (inr here) more = let next : begin n b (m + 1) ≡ begin n b (suc m) = ap (begin n b) (omega arith) in (m, omega arith, (here, omega (arith, next)))

pub tiles : (n b : ℕ) → 1 ≤ b → AreTiles n b
tiles n b some = record {
  first = omega arith;
  last = omega arith;
  least = λ j lt. omega arith;
  most = λ j lt. omega arith;
  each = λ i lt. in_block n b i b (omega arith) (omega arith);
}

begin_mono : (n b i j : ℕ) → i ≤ j → begin n b i ≤ begin n b j
begin_mono n b i j h = let scaled = mul-le i (n / b) j (n / b) h (omega arith) in omega arith

pub block_is : (n b j i : ℕ) → j < b → IsInBlock n b j i → block_of n b i ≡ j
block_is n b j i lt h = prefix_len_is (λ k. not (nat_lt i (begin n b (k + 1)))) (range_with_len 0 b) j 0 (omega (arith, length-range_with_len 0 b)) before stops
  where
    before : (k : ℕ) → k < j → not (nat_lt i (begin n b (get_or (range_with_len 0 b) k 0 + 1))) ≡ true
    before k p = rw (get_or-range_with_len 0 b k 0 (omega arith)) (let behind = begin_mono n b (0 + k + 1) j (omega arith) in grind (arith, nat_tests))

    stops : j < length (range_with_len 0 b) → not (nat_lt i (begin n b (get_or (range_with_len 0 b) j 0 + 1))) ≡ false
    stops p = rw (get_or-range_with_len 0 b j 0 lt) (let same : begin n b (0 + j + 1) ≡ begin n b (j + 1) = ap (begin n b) (omega arith) in grind (arith, nat_tests))
