-- Where blocks go that move along the lines of a grid, and where they come from.
use Rattle.std.proofs.Common.{◌≡◌, ◌<◌, ◌+◌, ◌*◌, ◌/◌, ◌%◌, ℕ, ℤ, pos, negsuc, ◌+ℤ◌, ◌-ℤ◌, List, length, map, slice_index_or, sym, subst, ap, ◌∙◌, arith}
use Rattle.std.specs.Global.{Vec}
use Rattle.std.proofs.Math.Nat.{add-zero, div-one, div_self, mod-one, mod_self, mul-one}
use Rattle.std.proofs.lemmas.Nat.{div_below, div-mul-add, mod-mul-add}
use Rattle.std.proofs.lemmas.List.{length-map}
use Rattle.std.proofs.lemmas.List.FromFn.{length-map-range_with_len, get_or-map-range_with_len}
use Rattle.msl_fabric.specs.Moves as moves
use Rattle.msl_lists.specs.Whole.{Extent, at, below, modulo}
use Rattle.msl_lists.proofs.WholeMoves.{moved_back, moved_on}
use Rattle.msl_matrix.specs.Grids.{IsExtent}
use Rattle.msl_matrix.specs.Matrices.{block}
use Rattle.msl_matrix.specs.Rotations.{AreMoved, as_records, comes_from, goes_to, turned}
use Rattle.msl_matrix.specs.declared.rotations.Axis.{Axis}
use Rattle.msl_matrix.specs.declared.rotations.Axis.TheVariants.{Rows, Cols}
use Rattle.msl_matrix.proofs.Seen.{number_below}

-- ---- places of a line

pub modulo_below : (z : ℤ) (n : ℕ) → 0 < n → modulo z n < n
modulo_below (pos a) n some = omega arith
modulo_below (negsuc a) n some = omega arith

-- a turn undoes another
abbrev Undoes : (ℤ → ℤ → ℤ) → (ℤ → ℤ → ℤ) → Type 0
Undoes turn other = (n : ℕ) (by : ℤ) (i : ℕ) → i < n → modulo (turn (pos (modulo (other (pos i) by) n)) by) n ≡ i

-- as n blocks of one place
module _ (n : ℕ) (by : ℤ) (i : ℕ) (lt : i < n) where
  one : n / n ≡ 1
  one = div_self (omega (arith, lt))

  back : modulo (pos (modulo (pos i +ℤ by) n) -ℤ by) n ≡ i
  back = simp (one, div-one, mod-one, mul-one, add-zero) at (moved_back n n i by (mod_self n) lt)

  on : modulo (pos (modulo (pos i -ℤ by) n) +ℤ by) n ≡ i
  on = simp (one, div-one, mod-one, mul-one, add-zero) at (moved_on n n i by (mod_self n) lt)

-- ---- places of a grid

module _ (m : Extent) (limits : IsExtent m) where
  pub row_of : (j : ℕ) → j < m.grid_rows * m.grid_cols → j / m.grid_cols < m.grid_rows
  row_of j lt = div_below j m.grid_cols m.grid_rows limits.grid_cols lt

  pub col_of : (j : ℕ) → j % m.grid_cols < m.grid_cols
  col_of j = let some = limits.grid_cols in omega arith

  together : (j : ℕ) → j / m.grid_cols * m.grid_cols + j % m.grid_cols ≡ j
  together j = let some = limits.grid_cols in omega arith

  module _ (turn : ℤ → ℤ → ℤ) (by : List ℤ) where
    pub turned_below : (axis : Axis) (i : ℕ) → i < m.grid_rows * m.grid_cols → turned turn axis m by i < m.grid_rows * m.grid_cols
    turned_below Rows i lt = number_below m (i / m.grid_cols) (modulo (turn (pos (i % m.grid_cols)) (at by (i / m.grid_cols))) m.grid_cols) (row_of i lt) (modulo_below _ m.grid_cols limits.grid_cols)
    turned_below Cols i lt = number_below m (modulo (turn (pos (i / m.grid_cols)) (at by (i % m.grid_cols))) m.grid_rows) (i % m.grid_cols) (modulo_below _ m.grid_rows limits.grid_rows) (col_of i)

    module _ (other : ℤ → ℤ → ℤ) (undoes : Undoes turn other) where
      undone : (axis : Axis) (i : ℕ) → i < m.grid_rows * m.grid_cols → turned turn axis m by (turned other axis m by i) ≡ i
      undone Rows i lt =
          let n = m.grid_cols in
          let s = i / n in
          let t = i % n in
          let q = modulo (other (pos t) (at by s)) n in
          let qq : q < n = modulo_below (other (pos t) (at by s)) n limits.grid_cols in
          ap (λ x. x * n + modulo (turn (pos ((s * n + q) % n)) (at by x)) n) (div-mul-add s n q qq)
          ∙ ap (λ x. s * n + modulo (turn (pos x) (at by s)) n) (mod-mul-add s n q qq)
          ∙ ap (λ x. s * n + x) (undoes n (at by s) t (col_of i))
          ∙ together i
      undone Cols i lt =
          let n = m.grid_cols in
          let s = i / n in
          let t = i % n in
          let p = modulo (other (pos s) (at by t)) m.grid_rows in
          ap (λ x. modulo (turn (pos x) (at by ((p * n + t) % n))) m.grid_rows * n + (p * n + t) % n) (div-mul-add p n t (col_of i))
          ∙ ap (λ x. modulo (turn (pos p) (at by x)) m.grid_rows * n + x) (mod-mul-add p n t (col_of i))
          ∙ ap (λ x. x * n + t) (undoes m.grid_rows (at by t) s (row_of i lt))
          ∙ together i

  -- ---- blocks that are moved by a table

  module _ (axis : Axis) (by : List ℤ) (to : List ℕ) (is : to ≡ map (goes_to axis m by) (below (m.grid_rows * m.grid_cols))) where
    goes : (i : ℕ) → i < m.grid_rows * m.grid_cols → slice_index_or to i 0 ≡ goes_to axis m by i
    goes i lt = ap (λ xs. slice_index_or xs i 0) is ∙ get_or-map-range_with_len (goes_to axis m by) 0 (m.grid_rows * m.grid_cols) i i 0 lt (omega arith)

    -- each block comes from where it went
    came_back : (i : ℕ) → i < m.grid_rows * m.grid_cols → comes_from axis m by (slice_index_or to i 0) ≡ i
    came_back i lt = ap (comes_from axis m by) (goes i lt) ∙ undone (λ z b. z -ℤ b) by (λ z b. z +ℤ b) back axis i lt

    pub is_bijection : (n : ℕ) → n ≡ m.grid_rows * m.grid_cols → moves.IsBijection n to
    is_bijection n e = record {
      long = ap length is ∙ length-map-range_with_len (goes_to axis m by) 0 (m.grid_rows * m.grid_cols) ∙ sym e;
      within = λ i lt. subst (λ k. k < n) (sym (goes i (omega (arith, lt, e)))) (omega (arith, turned_below (λ z b. z +ℤ b) by axis i (omega (arith, lt, e)), e));
      apart = λ i j p q same. sym (came_back i (omega (arith, p, e))) ∙ ap (comes_from axis m by) same ∙ came_back j (omega (arith, q, e));
    }

    pub blocks_moved : (blocks out : List (Vec ℤ)) → length blocks ≡ m.grid_rows * m.grid_cols → moves.AreMoved to (as_records blocks) (as_records out) → AreMoved m blocks (comes_from axis m by) out
    blocks_moved blocks out many moved = record {
      many = sym (length-map out _) ∙ moved.many ∙ length-map blocks _ ∙ many;
      each = λ j lt.
          let i = comes_from axis m by j in
          let ii : i < m.grid_rows * m.grid_cols = turned_below (λ z b. z -ℤ b) by axis j lt in
          ap (block out) (sym (goes i ii ∙ undone (λ z b. z +ℤ b) by (λ z b. z -ℤ b) on axis j lt))
          ∙ moved.lands i (omega (arith, ii, many, length-map blocks (λ (v : Vec ℤ). v.items)));
    }
