-- Rows and columns exchanged, block by block.
use Rattle.std.proofs.Common.{◌≡◌, ◌<◌, ◌≤◌, ◌+◌, ◌*◌, ◌/◌, ◌%◌, ℕ, ℤ, pos, List, length, slice_set, ◌≢◌, sym, subst, ap, ◌∙◌, arith, inl, inr, ◌⊎◌}
use Rattle.std.specs.Global.{Vec}
use Rattle.std.proofs.lemmas.Bool.{cases_lt}
use Rattle.std.proofs.lemmas.Nat.{mul-add-lt, div-mul-add, mod-mul-add}
use Rattle.std.proofs.lemmas.List.{get_or-set_other, get_or-set_same, length-set}
use Rattle.msl_lists.specs.Whole.{Extent, at, cell, transpose, transposed}
use Rattle.msl_lists.proofs.WholeMoves.{long_by, cell_by}
use Rattle.msl_matrix.specs.Grids.{IsExtent, top, left, height, width}
use Rattle.msl_matrix.specs.Matrices.{AreBlocks, AreTurned, IsTurned, IsTurnedBlock, block, seen}
use Rattle.msl_matrix.proofs.Seen.{by_number, col_below, row_below, seen_in, seen_is}

-- ---- one block

-- a place is that of one row and column
apart : (h a b i j : ℕ) → a < h → i < h → (i ≡ a → j ≡ b → ⊥) → j * h + i ≢ b * h + a
apart h a b i j pa pi other = λ same.
    other
    (sym (mod-mul-add j h i pi) ∙ ap (λ k. k % h) same ∙ mod-mul-add b h a pa)
    (sym (div-mul-add j h i pi) ∙ ap (λ k. k / h) same ∙ div-mul-add b h a pa)

module _ (h w : ℕ) (xs : List ℤ) where
  pub turned_none : (ys : List ℤ) → length ys ≡ h * w → AreTurned h w xs 0 0 0 ys
  turned_none ys long = record { long = long ∙ omega arith; each = λ a b lt. absurd (omega (arith, lt)); also = λ a b lt. absurd (omega (arith, lt)) }

  -- of one more column the rows before the second number
  pub record Column (rows more cols row : ℕ) (ys : List ℤ) : Type 0 where
    pub turned : AreTurned h w xs rows more cols ys
    pub column : (a : ℕ) → a < row → at ys (cols * h + a) ≡ at xs (a * w + cols)

  pub column_first : (rows more cols : ℕ) (ys : List ℤ) → AreTurned h w xs rows more cols ys → cols < w → Column rows more cols rows ys
  column_first rows more cols ys known lt = record { turned = known; column = λ a pa. known.each a cols pa lt }

  pub column_next : (rows more cols a : ℕ) (x : ℤ) (ys : List ℤ) → Column rows more cols a ys → rows ≤ a → a < more → more ≤ h → cols < w → x ≡ at xs (a * w + cols) → Column rows more cols (a + 1) (slice_set ys (cols * h + a) x)
  column_next rows more cols a x ys known behind pa few pb is = record {
    turned = record {
      long = length-set ys (cols * h + a) x ∙ known.turned.long;
      each = λ i j pi qj. other i j (omega (arith, pi, behind, pa, few)) (λ e f. absurd (omega (arith, pi, behind, e))) ∙ known.turned.each i j pi qj;
      also = λ i j pi qj. other i j (omega (arith, pi, few)) (λ e f. absurd (omega (arith, qj, f))) ∙ known.turned.also i j pi qj;
    };
    column = λ i pi. last i pi (cases_lt i a);
  }
    where
      here : a < h
      here = omega (arith, pa, few)

      other : (i j : ℕ) → i < h → (i ≡ a → j ≡ cols → ⊥) → at (slice_set ys (cols * h + a) x) (j * h + i) ≡ at ys (j * h + i)
      other i j pi off = get_or-set_other ys (cols * h + a) (j * h + i) x (pos 0) (apart h a cols i j here pi off)

      last : (i : ℕ) → i < a + 1 → (i < a) ⊎ (a ≤ i) → at (slice_set ys (cols * h + a) x) (cols * h + i) ≡ at xs (i * w + cols)
      last i pi (inl old) = other i cols (omega (arith, old, here)) (λ e f. absurd (omega (arith, old, e))) ∙ known.column i old
      last i pi (inr new) =
          let same : a ≡ i = omega (arith, pi, new) in
          let inside : cols * h + a < length ys = omega (arith, mul-add-lt cols h a w pb here, known.turned.long) in
          subst (λ k. at (slice_set ys (cols * h + a) x) (cols * h + k) ≡ at xs (k * w + cols)) same (get_or-set_same ys (cols * h + a) x (pos 0) inside ∙ is)

  pub column_all : (rows more cols : ℕ) (ys : List ℤ) → Column rows more cols more ys → AreTurned h w xs rows more (cols + 1) ys
  column_all rows more cols ys known = record {
    long = known.turned.long;
    each = known.turned.each;
    also = λ a b pa qb. here a b pa qb (cases_lt b cols);
  }
    where
      here : (a b : ℕ) → a < more → b < cols + 1 → (b < cols) ⊎ (cols ≤ b) → at ys (b * h + a) ≡ at xs (a * w + b)
      here a b pa qb (inl old) = known.turned.also a b pa old
      here a b pa qb (inr new) = let same : cols ≡ b = omega (arith, qb, new) in subst (λ k. at ys (k * h + a) ≡ at xs (a * w + k)) same (known.column a pa)

  pub rows_first : (rows more : ℕ) (ys : List ℤ) → AreTurned h w xs rows 0 0 ys → AreTurned h w xs rows more 0 ys
  rows_first rows more ys known = record { long = known.long; each = known.each; also = λ a b pa qb. absurd (omega (arith, qb)) }

  pub rows_all : (rows more : ℕ) (ys : List ℤ) → AreTurned h w xs rows more w ys → AreTurned h w xs more 0 0 ys
  rows_all rows more ys known = record { long = known.long; each = known.also; also = λ a b pa. absurd (omega (arith, pa)) }

  pub turned_all : (ys : List ℤ) → AreTurned h w xs h 0 0 ys → IsTurned h w xs ys
  turned_all ys known = record { long = known.long; each = known.each }

-- ---- all blocks

module _ (m : Extent) (blocks : List (Vec ℤ)) (h : AreBlocks m blocks) where
  pub limits_turned : IsExtent (transposed m)
  limits_turned = record {
    rows = h.limits.cols;
    cols = h.limits.rows;
    numbers = omega (arith, h.limits.numbers);
    grid_rows = h.limits.grid_cols;
    grid_cols = h.limits.grid_rows;
    blocks = omega (arith, h.limits.blocks);
  }

  module _ (out : List (Vec ℤ)) (many : length out ≡ m.grid_rows * m.grid_cols) (each : (j : ℕ) → j < m.grid_rows * m.grid_cols → IsTurnedBlock m blocks j (block out j)) where
    known : (j : ℕ) → j < m.grid_cols * m.grid_rows → IsTurnedBlock m blocks j (block out j)
    known j lt = each j (omega (arith, lt))

    pub turned_blocks : AreBlocks (transposed m) out
    turned_blocks =
        let turned : m.grid_rows * m.grid_cols ≡ m.grid_cols * m.grid_rows = omega arith in
        record {
          limits = limits_turned;
          many = many ∙ turned;
          sizes = λ j lt. (known j lt).long;
        }

    pub turned_seen : seen (transposed m) out ≡ transpose m (seen m blocks)
    turned_seen =
        let there = λ (r c : ℕ). cell m.cols (seen m blocks) c r in
        seen_is (transposed m) limits_turned out (transpose m (seen m blocks)) (long_by (m.cols * m.rows) (λ i. there (i / m.rows) (i % m.rows))) (λ t s b a qt ps qb pa.
        let turned = by_number (transposed m) limits_turned out (λ t s j. IsTurned (height m s) (width m t) (block blocks (s * m.grid_cols + t)) (block out j)) known t s qt ps in
        turned.each a b pa qb
        ∙ sym (seen_in m h.limits blocks s t a b ps qt pa qb)
        ∙ sym (cell_by m.cols m.rows there (left m t + b) (top m s + a) (col_below m h.limits t b qt qb) (row_below m h.limits s a ps pa)))
