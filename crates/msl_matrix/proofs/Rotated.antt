-- Blocks that move within their block rows or block columns.
use Rattle.std.proofs.Common.{◌≡◌, ◌<◌, ◌+◌, ◌-◌, ◌*◌, ◌/◌, ◌%◌, ℕ, ℤ, pos, ◌-ℤ◌, List, [], ◌∷◌, length, min, Result, Ok, sym, subst, ap, ap₂, ◌∙◌, arith}
use Rattle.std.specs.Global.{Vec}
use Rattle.std.proofs.lemmas.Nat.{div-mul-add, mod-mul-add}
use Rattle.msl_base.specs.Blocks.{begin, block_of}
use Rattle.msl_base.specs.declared.answer.Halt.{Halt}
use Rattle.msl_base.specs.declared.answer.Halt.TheVariants as halt
use Rattle.msl_base.specs.declared.fault.Fault.{Fault}
use Rattle.msl_base.proofs.Tiles.{block_is}
use Rattle.msl_lists.specs.Whole.{◌>>=◌, Extent, Function, at, at_stage, cell, each, matrix_by, modulo}
use Rattle.msl_lists.proofs.WholeMoves.{long_by, cell_by, divisible}
use Rattle.msl_local.specs.Outcomes.{Stops}
use Rattle.msl_matrix.specs.Grids.{top, left, height, width}
use Rattle.msl_matrix.specs.Matrices.{AreBlocks, block, seen}
use Rattle.msl_matrix.specs.Rotations.{AreMoved, IsEven, comes_from, lines, rotate}
use Rattle.msl_matrix.specs.declared.rotations.Axis.{Axis}
use Rattle.msl_matrix.specs.declared.rotations.Axis.TheVariants.{Rows, Cols}
use Rattle.msl_matrix.proofs.Lines.{col_of, modulo_below, row_of}
use Rattle.msl_matrix.proofs.Reading.{long_block}
use Rattle.msl_matrix.proofs.Seen.{after, behind, by_number, col_below, row_below, seen_in, seen_is}

-- ---- the operation on whole matrices

-- the matrix whose blocks move so far
abbrev moved_by : Axis → Extent → List ℤ → List ℤ → List ℤ
moved_by Rows m a by = let w = m.cols / m.grid_cols in
    matrix_by m.rows m.cols (λ r c. cell m.cols a r (modulo (pos (c / w) -ℤ at by (block_of m.rows m.grid_rows r)) m.grid_cols * w + c % w))
moved_by Cols m a by = let k = m.rows / m.grid_rows in
    matrix_by m.rows m.cols (λ r c. cell m.cols a (modulo (pos (r / k) -ℤ at by (block_of m.cols m.grid_cols c)) m.grid_rows * k + r % k) c)

-- what the function gives for each line
abbrev pub turns : Axis → Function → ℕ → Extent → Result (List ℤ) Fault
turns axis u stage m = each (lines axis m) (λ s. at_stage stage (u (pos s ∷ [])))

after_turns : (axis : Axis) (u : Function) (stage : ℕ) (m : Extent) (a : List ℤ) → IsEven axis m → rotate axis u stage m a ≡ (turns axis u stage m >>= λ by. Ok (moved_by axis m a by))
after_turns Rows u stage m a whole = divisible stage m.cols m.grid_cols _ whole
after_turns Cols u stage m a whole = divisible stage m.rows m.grid_rows _ whole

-- a fault for a line is that of the operation
pub stops : (axis : Axis) (u : Function) (stage : ℕ) (m : Extent) (a : List ℤ) (h : Halt) → IsEven axis m → Stops (turns axis u stage m) h → Stops (rotate axis u stage m a) h
stops axis u stage m a (halt.Fault e) whole is = after_turns axis u stage m a whole ∙ ap (λ (r : Result (List ℤ) Fault). r >>= λ by. Ok (moved_by axis m a by)) is
stops axis u stage m a halt.NoMemory whole is = tt

-- ---- blocks of one size

even : (n b j : ℕ) → n % b ≡ 0 → begin n b j ≡ j * (n / b)
even n b j whole = ap (λ k. j * (n / b) + min j k) whole ∙ none (j * (n / b)) j
  where
    none : (x j : ℕ) → x + min j 0 ≡ x
    none x j = omega arith

even_size : (n b j : ℕ) → n % b ≡ 0 → begin n b (j + 1) - begin n b j ≡ n / b
even_size n b j whole = ap₂ (λ x y. x - y) (even n b (j + 1) whole) (even n b j whole) ∙ one (n / b) j
  where
    one : (w j : ℕ) → (j + 1) * w - j * w ≡ w
    one w j = omega arith

module _ (m : Extent) (blocks : List (Vec ℤ)) (h : AreBlocks m blocks) (by : List ℤ) (out : List (Vec ℤ)) where
  -- ---- to the right

  module _ (whole : m.cols % m.grid_cols ≡ 0) (moved : AreMoved m blocks (comes_from Rows m by) out) where
    right_blocks : AreBlocks m out
    right_blocks = record {
      limits = h.limits;
      many = moved.many;
      sizes = λ j lt.
          let s = j / m.grid_cols in
          let t = j % m.grid_cols in
          let q = modulo (pos t -ℤ at by s) m.grid_cols in
          ap length (moved.each j lt)
          ∙ long_block m blocks h s q (row_of m h.limits j lt) (modulo_below (pos t -ℤ at by s) m.grid_cols h.limits.grid_cols)
          ∙ ap (λ w. height m s * w) (even_size m.cols m.grid_cols q whole ∙ sym (even_size m.cols m.grid_cols t whole));
    }

    right_seen : seen m out ≡ moved_by Rows m (seen m blocks) by
    right_seen =
        let w = m.cols / m.grid_cols in
        let there = λ (r c : ℕ). cell m.cols (seen m blocks) r (modulo (pos (c / w) -ℤ at by (block_of m.rows m.grid_rows r)) m.grid_cols * w + c % w) in
        seen_is m h.limits out (matrix_by m.rows m.cols there) (long_by (m.rows * m.cols) (λ i. there (i / m.cols) (i % m.cols))) (λ s t a b ps qt pa qb.
        let q = modulo (pos t -ℤ at by s) m.grid_cols in
        let qq : q < m.grid_cols = modulo_below (pos t -ℤ at by s) m.grid_cols h.limits.grid_cols in
        let r = top m s + a in
        let c = left m t + b in
        let wide : width m t ≡ w = even_size m.cols m.grid_cols t whole in
        let as_wide : width m t ≡ width m q = wide ∙ sym (even_size m.cols m.grid_cols q whole) in
        let inside : b < w = subst (λ k. b < k) wide qb in
        let column : c / w ≡ t = ap (λ k. (k + b) / w) (even m.cols m.grid_cols t whole) ∙ div-mul-add t w b inside in
        let rest : c % w ≡ b = ap (λ k. (k + b) % w) (even m.cols m.grid_cols t whole) ∙ mod-mul-add t w b inside in
        let row : block_of m.rows m.grid_rows r ≡ s = block_is m.rows m.grid_rows s r ps (after (top m s) a, behind (top m s) (top m (s + 1)) a pa) in
        let known = by_number m h.limits out (λ s t j. block out j ≡ block blocks (s * m.grid_cols + modulo (pos t -ℤ at by s) m.grid_cols)) moved.each s t ps qt in
        ap (λ (xs : List ℤ). at xs (a * width m t + b)) known
        ∙ ap (λ k. at (block blocks (s * m.grid_cols + q)) (a * k + b)) as_wide
        ∙ sym (seen_in m h.limits blocks s q a b ps qq pa (subst (λ k. b < k) as_wide qb))
        ∙ ap (λ k. cell m.cols (seen m blocks) r (k + b)) (even m.cols m.grid_cols q whole)
        ∙ ap (λ k. cell m.cols (seen m blocks) r (q * w + k)) (sym rest)
        ∙ ap (λ k. cell m.cols (seen m blocks) r (modulo (pos t -ℤ at by k) m.grid_cols * w + c % w)) (sym row)
        ∙ ap (λ k. cell m.cols (seen m blocks) r (modulo (pos k -ℤ at by (block_of m.rows m.grid_rows r)) m.grid_cols * w + c % w)) (sym column)
        ∙ sym (cell_by m.rows m.cols there r c (row_below m h.limits s a ps pa) (col_below m h.limits t b qt qb)))

  -- ---- down

  module _ (whole : m.rows % m.grid_rows ≡ 0) (moved : AreMoved m blocks (comes_from Cols m by) out) where
    down_blocks : AreBlocks m out
    down_blocks = record {
      limits = h.limits;
      many = moved.many;
      sizes = λ j lt.
          let s = j / m.grid_cols in
          let t = j % m.grid_cols in
          let p = modulo (pos s -ℤ at by t) m.grid_rows in
          ap length (moved.each j lt)
          ∙ long_block m blocks h p t (modulo_below (pos s -ℤ at by t) m.grid_rows h.limits.grid_rows) (col_of m h.limits j)
          ∙ ap (λ k. k * width m t) (even_size m.rows m.grid_rows p whole ∙ sym (even_size m.rows m.grid_rows s whole));
    }

    down_seen : seen m out ≡ moved_by Cols m (seen m blocks) by
    down_seen =
        let k = m.rows / m.grid_rows in
        let there = λ (r c : ℕ). cell m.cols (seen m blocks) (modulo (pos (r / k) -ℤ at by (block_of m.cols m.grid_cols c)) m.grid_rows * k + r % k) c in
        seen_is m h.limits out (matrix_by m.rows m.cols there) (long_by (m.rows * m.cols) (λ i. there (i / m.cols) (i % m.cols))) (λ s t a b ps qt pa qb.
        let p = modulo (pos s -ℤ at by t) m.grid_rows in
        let pp : p < m.grid_rows = modulo_below (pos s -ℤ at by t) m.grid_rows h.limits.grid_rows in
        let r = top m s + a in
        let c = left m t + b in
        let high : height m s ≡ k = even_size m.rows m.grid_rows s whole in
        let as_high : height m s ≡ height m p = high ∙ sym (even_size m.rows m.grid_rows p whole) in
        let inside : a < k = subst (λ n. a < n) high pa in
        let row : r / k ≡ s = ap (λ n. (n + a) / k) (even m.rows m.grid_rows s whole) ∙ div-mul-add s k a inside in
        let rest : r % k ≡ a = ap (λ n. (n + a) % k) (even m.rows m.grid_rows s whole) ∙ mod-mul-add s k a inside in
        let column : block_of m.cols m.grid_cols c ≡ t = block_is m.cols m.grid_cols t c qt (after (left m t) b, behind (left m t) (left m (t + 1)) b qb) in
        let known = by_number m h.limits out (λ s t j. block out j ≡ block blocks (modulo (pos s -ℤ at by t) m.grid_rows * m.grid_cols + t)) moved.each s t ps qt in
        ap (λ (xs : List ℤ). at xs (a * width m t + b)) known
        ∙ sym (seen_in m h.limits blocks p t a b pp qt (subst (λ n. a < n) as_high pa) qb)
        ∙ ap (λ n. cell m.cols (seen m blocks) (n + a) c) (even m.rows m.grid_rows p whole)
        ∙ ap (λ n. cell m.cols (seen m blocks) (p * k + n) c) (sym rest)
        ∙ ap (λ n. cell m.cols (seen m blocks) (modulo (pos s -ℤ at by n) m.grid_rows * k + r % k) c) (sym column)
        ∙ ap (λ n. cell m.cols (seen m blocks) (modulo (pos n -ℤ at by (block_of m.cols m.grid_cols c)) m.grid_rows * k + r % k) c) (sym row)
        ∙ sym (cell_by m.rows m.cols there r c (row_below m h.limits s a ps pa) (col_below m h.limits t b qt qb)))

  -- ---- along either kind of line

  pub moved_blocks : (axis : Axis) → IsEven axis m → AreMoved m blocks (comes_from axis m by) out → AreBlocks m out
  moved_blocks Rows whole moved = right_blocks whole moved
  moved_blocks Cols whole moved = down_blocks whole moved

  moved_seen : (axis : Axis) → IsEven axis m → AreMoved m blocks (comes_from axis m by) out → seen m out ≡ moved_by axis m (seen m blocks) by
  moved_seen Rows whole moved = right_seen whole moved
  moved_seen Cols whole moved = down_seen whole moved

  pub rotated : (axis : Axis) → IsEven axis m → AreMoved m blocks (comes_from axis m by) out → (u : Function) (stage : ℕ) → turns axis u stage m ≡ Ok by → rotate axis u stage m (seen m blocks) ≡ Ok (seen m out)
  rotated axis whole moved u stage is =
      after_turns axis u stage m (seen m blocks) whole
      ∙ ap (λ (r : Result (List ℤ) Fault). r >>= λ by. Ok (moved_by axis m (seen m blocks) by)) is
      ∙ ap (λ (xs : List ℤ). Ok xs) (sym (moved_seen axis whole moved))
