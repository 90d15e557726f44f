-- The numbers of a matrix, row by row, out of its blocks.
use Rattle.std.proofs.Common.{◌≡◌, ◌<◌, ◌≤◌, ◌+◌, ◌-◌, ◌*◌, ℕ, ℤ, pos, List, ◌++◌, length, take, drop, sym, subst, ap, ◌∙◌, arith}
use Rattle.std.specs.Global.{Vec}
use Rattle.std.proofs.Math.Seq.{take-add}
use Rattle.std.proofs.lemmas.Nat.{mul-le}
use Rattle.std.proofs.lemmas.List.{ext_get_or, take_all}
use Rattle.msl_base.specs.Records.{Kept}
use Rattle.msl_base.specs.declared.limits.TheConstants.{MOST_NUMBERS}
use Rattle.msl_lists.specs.Whole.{Extent, at}
use Rattle.msl_local.proofs.Blocks.{begin_within, begin_next}
use Rattle.msl_matrix.specs.Grids.{top, left, height, width}
use Rattle.msl_matrix.specs.Matrices.{AreBlocks, AreRead, block, seen}
use Rattle.msl_matrix.proofs.Cuts.{at_row, long_row}
use Rattle.msl_matrix.proofs.Seen.{by_number, long_seen, seen_in, row_below, height_within, width_within}

-- one row more
row_more : (a h w : ℕ) → a < h → a * w + w ≤ h * w
row_more a h w lt = omega (arith, mul-le (a + 1) w h w (omega (arith, lt)) (omega arith))

wide : (n k c : ℕ) → n + k ≤ c → (r rows : ℕ) → r < rows → r * c + n + k ≤ rows * c
wide n k c few r rows lt = omega (arith, row_more r rows c lt, few)

module _ (m : Extent) (blocks : List (Vec ℤ)) (h : AreBlocks m blocks) where
  pub long_block : (s t : ℕ) → s < m.grid_rows → t < m.grid_cols → length (block blocks (s * m.grid_cols + t)) ≡ height m s * width m t
  long_block s t ps qt = by_number m h.limits blocks (λ s t j. length (block blocks j) ≡ height m s * width m t) h.sizes s t ps qt

  pub row_within : (s t a : ℕ) → s < m.grid_rows → t < m.grid_cols → a < height m s → a * width m t + width m t ≤ length (block blocks (s * m.grid_cols + t))
  row_within s t a ps qt pa = omega (arith, long_block s t ps qt, row_more a (height m s) (width m t) pa)

  pub block_few : (s t : ℕ) → s < m.grid_rows → t < m.grid_cols → length (block blocks (s * m.grid_cols + t)) ≤ MOST_NUMBERS
  block_few s t ps qt = go (height m s) (width m t) (long_block s t ps qt) (mul-le (height m s) (width m t) m.rows m.cols (height_within m h.limits s ps) (width_within m h.limits t qt))
    where
      go : (x y : ℕ) → length (block blocks (s * m.grid_cols + t)) ≡ x * y → x * y ≤ m.rows * m.cols → length (block blocks (s * m.grid_cols + t)) ≤ MOST_NUMBERS
      go x y e few = omega (arith, e, few, h.limits.numbers)

  -- where block column t ends
  pub col_end : (t : ℕ) → t < m.grid_cols → left m t + width m t ≤ m.cols
  col_end t qt = go (left m t) (left m (t + 1)) (begin_next m.cols m.grid_cols t) (last (left m (t + 1)) (begin_within m.cols m.grid_cols (t + 1) h.limits.grid_cols (omega (arith, qt))))
    where
      last : (x : ℕ) → x ≤ m.cols → x ≤ m.cols
      last x p = p

      go : (lo hi : ℕ) → lo ≤ hi → hi ≤ m.cols → lo + (hi - lo) ≤ m.cols
      go lo hi p q = omega (arith, p, q)

  pub seen_within : (s t a : ℕ) → s < m.grid_rows → t < m.grid_cols → a < height m s → (top m s + a) * m.cols + left m t + width m t ≤ length (seen m blocks)
  seen_within s t a ps qt pa =
      let e = wide (left m t) (width m t) m.cols (col_end t qt) (top m s + a) m.rows (row_below m h.limits s a ps pa) in
      subst (λ n. (top m s + a) * m.cols + left m t + width m t ≤ n) (sym (long_seen m h.limits blocks)) e

  -- a row of a block is a piece of the matrix
  pub piece : (s t a : ℕ) → s < m.grid_rows → t < m.grid_cols → a < height m s
      → take (width m t) (drop (a * width m t) (block blocks (s * m.grid_cols + t))) ≡ take (width m t) (drop ((top m s + a) * m.cols + left m t) (seen m blocks))
  piece s t a ps qt pa =
      let w = width m t in
      let b = block blocks (s * m.grid_cols + t) in
      let from = (top m s + a) * m.cols + left m t in
      let one : length (take w (drop (a * w) b)) ≡ w = long_row b (a * w) w (row_within s t a ps qt pa) in
      let two : length (take w (drop from (seen m blocks))) ≡ w = long_row (seen m blocks) from w (seen_within s t a ps qt pa) in
      ext_get_or (pos 0) (take w (drop (a * w) b)) (take w (drop from (seen m blocks))) (one ∙ sym two) (λ i lt. same i (subst (λ n. i < n) one lt))
    where
      same : (i : ℕ) → i < width m t → at (take (width m t) (drop (a * width m t) (block blocks (s * m.grid_cols + t)))) i ≡ at (take (width m t) (drop ((top m s + a) * m.cols + left m t) (seen m blocks))) i
      same i lt =
          let w = width m t in
          let b = block blocks (s * m.grid_cols + t) in
          at_row b (a * w) w i lt
          ∙ sym (seen_in m h.limits blocks s t a i ps qt pa lt)
          ∙ ap (at (seen m blocks)) (joins ((top m s + a) * m.cols) (left m t) i)
          ∙ sym (at_row (seen m blocks) ((top m s + a) * m.cols + left m t) w i lt)
        where
          joins : (x y z : ℕ) → x + (y + z) ≡ x + y + z
          joins x y z = omega arith

  -- what is appended next
  pub read_more : (n w : ℕ) (xs : List ℤ) (old new : Kept) → AreRead m blocks n old → xs ≡ take w (drop n (seen m blocks)) → n + w ≤ length (seen m blocks)
      → new.numbers ≡ old.numbers ++ xs → new.spare + length xs ≡ old.spare → AreRead m blocks (n + w) new
  read_more n w xs old new read is few numbers room =
      let long : length xs ≡ w = ap length is ∙ long_row (seen m blocks) n w few in
      record {
        numbers = numbers ∙ ap (λ ys. old.numbers ++ ys) is ∙ ap (λ ys. ys ++ take w (drop n (seen m blocks))) read.numbers ∙ sym (take-add n w (seen m blocks));
        room = omega (arith, read.room, room, long);
      }

  pub enough : (n w : ℕ) (xs : List ℤ) (old : Kept) → AreRead m blocks n old → xs ≡ take w (drop n (seen m blocks)) → n + w ≤ length (seen m blocks) → length xs ≤ old.spare
  enough n w xs old read is few =
      let long : length xs ≡ w = ap length is ∙ long_row (seen m blocks) n w few in
      omega (arith, long, read.room, few, long_seen m h.limits blocks)

  pub read_all : (all : Kept) → AreRead m blocks (m.rows * m.cols) all → all.numbers ≡ seen m blocks
  read_all all read = read.numbers ∙ take_all (m.rows * m.cols) (seen m blocks) (omega (arith, long_seen m h.limits blocks))

  -- as far as the same place
  pub read_same : (n k : ℕ) (all : Kept) → n ≡ k → AreRead m blocks n all → AreRead m blocks k all
  read_same n k all e read = subst (λ x. AreRead m blocks x all) e read
