-- Moves, by where their elements and blocks stand.
use Rattle.std.proofs.Common.{◌≡◌, ◌<◌, ◌≤◌, ◌+◌, ◌*◌, ◌/◌, ◌%◌, ℕ, zero, suc, ℤ, pos, List, [], ◌∷◌, length, replicate, Ok, refl, ap, ◌∙◌, arith}
use Rattle.std.proofs.lemmas.Nat.{div_below, mul-le}
use Rattle.std.proofs.lemmas.List.{get_or-replicate, length-replicate}
use Rattle.msl_lists.specs.Whole.{Function, at, broadcast_partition, permute, permute_partition, targets_of}
use Rattle.msl_lists.specs.WholeLaws.{IsBijection}
use Rattle.msl_lists.proofs.WholeAnswers.{broadcast_answer, permute_answer, permute_partition_answer}
use Rattle.msl_lists.proofs.WholeBijections.{same_value}
use Rattle.msl_lists.proofs.WholeMoves.{whole_blocks}
use Rattle.msl_lists.proofs.WholeTargets.{targets_are}
use Rattle.msl_array.specs.Moves.{ArePlaces, AreBlocks, IsGathered, IsMoved}
use Rattle.msl_array.proofs.Marks.{places_of}

-- ---- elements

module _ (u : Function) (stage n : ℕ) (ts : List ℤ) (given : targets_of u stage n ≡ Ok ts) where
  pub target_places : ArePlaces n ts
  target_places = let t = targets_are u stage n ts given in places_of u n ts t.0 t.1

  -- what stands at the place of a target, by the function
  pub lands_at : (xs moved : List ℤ) → length xs ≡ n → IsMoved ts xs moved → (i to : ℕ) → i < n → u (pos i ∷ []) ≡ Ok (pos to) → at moved to ≡ at xs i
  lands_at xs moved long m i to lt e =
      let t = targets_are u stage n ts given in
      m.lands i to (omega (arith, lt, long)) (same_value u n ts t.0 i (pos to) lt e)

  pub bijective : IsBijection u n
  bijective = (targets_are u stage n ts given).1

pub moved_elements : (u : Function) (stage : ℕ) (a ts moved : List ℤ) → targets_of u stage (length a) ≡ Ok ts → IsMoved ts a moved → permute u stage a ≡ Ok moved
moved_elements u stage a ts moved given m =
    permute_answer u stage a moved (bijective u stage (length a) ts given) record { long = m.long; lands = lands_at u stage (length a) ts given a moved refl m }

-- ---- blocks

fits_block : (n b j : ℕ) → n % b ≡ 0 → j < b → j * (n / b) + n / b ≤ n
fits_block n b j whole lt =
    let scaled = mul-le (j + 1) (n / b) b (n / b) (omega (arith, lt)) (omega arith) in
    omega (arith, scaled, whole_blocks n b whole)

module _ (u : Function) (b : ℕ) (numbers : List ℤ) (bijection : IsBijection u b) (each : length numbers ≡ b) (from : (j to : ℕ) → j < b → u (pos j ∷ []) ≡ Ok (pos to) → at numbers to ≡ pos j) where
  pub sources_are : (n : ℕ) → n % b ≡ 0 → AreBlocks (n / b) n numbers
  sources_are n whole = λ i lt.
      let o = bijection.onto i (omega (arith, lt, each)) in
      (o.0, fits_block n b o.0 whole o.1, from o.0 i o.1 o.2)

  pub moved_blocks : (stage : ℕ) (a moved : List ℤ) → length a % b ≡ 0 → IsGathered (length a / b) numbers a moved → permute_partition u stage b a ≡ Ok moved
  moved_blocks stage a moved whole g =
      permute_partition_answer u stage b a moved whole bijection record {
        long = g.long ∙ ap (λ k. k * (length a / b)) each ∙ whole_blocks (length a) b whole;
        lands = λ j t to lt small e.
            let w = bijection.within j lt in
            let named : pos w.0 ≡ pos to = let here = w.2 in cc in
            let same : w.0 ≡ to = cc in
            g.lands to t j (omega (arith, w.1, same, each)) small (from j to lt e);
      }

module _ (j b : ℕ) (lt : j < b) where
  pub repeats_are : (n : ℕ) → n % b ≡ 0 → AreBlocks (n / b) n (replicate b (pos j))
  repeats_are n whole = λ i inside. (j, fits_block n b j whole lt, get_or-replicate b i (pos j) (pos 0) (omega (arith, inside, length-replicate b (pos j))))

  pub repeated_block : (stage : ℕ) (a moved : List ℤ) → length a % b ≡ 0 → IsGathered (length a / b) (replicate b (pos j)) a moved → broadcast_partition j stage b a ≡ Ok moved
  repeated_block stage a moved whole g =
      broadcast_answer j stage b a moved whole record {
        long = g.long ∙ ap (λ n. n * (length a / b)) (length-replicate b (pos j)) ∙ whole_blocks (length a) b whole;
        lands = λ i inside. lands (length a / b) (whole_blocks (length a) b whole) g i inside;
      }
    where
      lands : (k : ℕ) → b * k ≡ length a → IsGathered k (replicate b (pos j)) a moved → (i : ℕ) → i < length a → at moved i ≡ at a (j * k + i % k)
      lands zero e h i inside = absurd (omega (arith, e, inside))
      lands (suc k) e h i inside =
          let w = suc k in
          let below : i / w < b = div_below i w b (omega arith) (omega (arith, e, inside)) in
          let rest : i % w < w = omega arith in
          let split : i ≡ i / w * w + i % w = omega arith in
          ap (at moved) split
          ∙ h.lands (i / w) (i % w) j (omega (arith, below, length-replicate b (pos j))) rest (get_or-replicate b (i / w) (pos j) (pos 0) below)
