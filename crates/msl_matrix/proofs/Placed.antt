-- What is worked out block by block, at the places of the matrix.
use Rattle.std.proofs.Common.{◌≡◌, ◌<◌, ◌≤◌, ◌+◌, ◌-◌, ◌*◌, ◌/◌, ◌%◌, ◌^◌, ℕ, suc, ℤ, pos, List, [], ◌∷◌, length, slice_index_or, Result, Ok, refl, sym, subst, ap, ap₂, ◌∙◌, arith, length-append}
use Rattle.std.specs.Global.{Vec}
use Rattle.std.proofs.lemmas.Nat.{mul-add-lt, div_below, div-mul-add, mod-mul-add}
use Rattle.std.proofs.lemmas.List.{ext_get_or, length-map}
use Rattle.msl_base.specs.declared.fault.Fault.{Fault}
use Rattle.msl_base.specs.Blocks.{begin}
use Rattle.msl_base.proofs.Tiles.{tiles}
use Rattle.msl_lists.specs.Whole.{Extent, at, each}
use Rattle.msl_lists.specs.WholeLaws.{IsEach}
use Rattle.msl_lists.proofs.WholeEach.{each_is}
use Rattle.msl_lists.proofs.WholeUnique.{one_each, some_cols}
use Rattle.msl_local.specs.declared.inputs.Window.{Window}
use Rattle.msl_local.specs.Parts.{flat, lengths, start}
use Rattle.msl_local.specs.Windows.{cols, rows}
use Rattle.msl_local.proofs.Blocks.{begin_first, begin_last}
use Rattle.msl_local.proofs.Lists.{at_part, flat_one, many_alike, place_within, start_alike, start_first}
use Rattle.msl_matrix.specs.Grids.{AreWindows, top, left, height, width}
use Rattle.msl_matrix.specs.Matrices.{AreBlocks, block, seen}
use Rattle.msl_matrix.proofs.Seen.{back, block_at, inside_of, long_seen, number_below, seen_at, size_block}
use Rattle.msl_matrix.proofs.Reading.{block_few, long_block}
use Rattle.msl_matrix.proofs.Windows.{in_window}

-- ---- blocks as parts

at_block : (a : List (Vec ℤ)) (j k : ℕ) → j < length a → k < length (block a j) → at (flat a) (start a j + k) ≡ at (block a j) k
at_block [] j k lt inside = absurd (omega (arith, lt))
at_block (v ∷ a) j k lt inside =
    let e = block_at (v ∷ a) j v lt in
    at_part (v ∷ a) j k v lt (subst (λ (xs : List ℤ). k < length xs) e inside) ∙ sym (ap (λ (xs : List ℤ). at xs k) e)

one_block : (a : List (Vec ℤ)) → length a ≡ 1 → length (flat a) ≡ length (block a 0)
one_block [] e = absurd (omega (arith, e))
one_block (v ∷ []) e = ap length (flat_one v)
one_block (v ∷ w ∷ rest) e = absurd (omega (arith, e))

from_none : (x y n : ℕ) → x ≡ n → y ≡ 0 → x - y ≡ n
from_none x y n p q = omega (arith, p, q)

from_first : (n : ℕ) → 0 + n ≡ n
from_first n = omega arith

-- blocks of at most n numbers each
flat_few : (n : ℕ) (a : List (Vec ℤ)) → ((j : ℕ) → j < length a → slice_index_or (lengths a) j 0 ≤ n) → length (flat a) ≤ length a * n
flat_few n [] few = omega arith
flat_few n (v ∷ a) few =
    let first : length v.items ≤ n = few 0 (omega arith) in
    let rest = flat_few n a (λ j lt. few (suc j) (omega (arith, lt))) in
    let more : (1 + length a) * n ≡ n + length a * n = omega arith in
    omega (arith, length-append v.items (flat a), first, rest, more)

module _ (m : Extent) (blocks : List (Vec ℤ)) (h : AreBlocks m blocks) where
  -- by the number of a block
  size_few : (j : ℕ) → j < length blocks → slice_index_or (lengths blocks) j 0 ≤ 1048576
  size_few j lt =
      let within : j < m.grid_rows * m.grid_cols = omega (arith, lt, h.many) in
      let s : j / m.grid_cols < m.grid_rows = div_below j m.grid_cols m.grid_rows h.limits.grid_cols within in
      let t : j % m.grid_cols < m.grid_cols = let some = h.limits.grid_cols in omega arith in
      let is : j / m.grid_cols * m.grid_cols + j % m.grid_cols ≡ j = let some = h.limits.grid_cols in omega arith in
      let few = block_few m blocks h (j / m.grid_cols) (j % m.grid_cols) s t in
      subst (λ n. n ≤ 1048576) (sym (size_block blocks j lt)) (subst (λ k. length (block blocks k) ≤ 1048576) is few)

  pub few_places : length (flat blocks) ≤ 2 ^ 60
  few_places =
      let all = flat_few 1048576 blocks size_few in
      let many : length blocks ≤ 1024 = omega (arith, h.many, h.limits.blocks) in
      omega (arith, all, many)

  pub like_blocks : (other : List (Vec ℤ)) → lengths other ≡ lengths blocks → AreBlocks m other
  like_blocks other e =
      let many = many_alike blocks other e in
      record {
        limits = h.limits;
        many = many ∙ h.many;
        sizes = λ j lt. sym (size_block other j (omega (arith, lt, many, h.many))) ∙ ap (λ xs. slice_index_or xs j 0) e ∙ size_block blocks j (omega (arith, lt, h.many)) ∙ h.sizes j lt;
      }

  pub lie_alike : (other : List (Vec ℤ)) → AreBlocks m other → lengths other ≡ lengths blocks
  lie_alike other k = ext_get_or 0 (lengths other) (lengths blocks) (length-map other _ ∙ k.many ∙ sym h.many ∙ sym (length-map blocks _)) (λ j lt. same j (omega (arith, lt, length-map other (λ (v : Vec ℤ). length v.items))))
    where
      same : (j : ℕ) → j < length other → slice_index_or (lengths other) j 0 ≡ slice_index_or (lengths blocks) j 0
      same j lt = size_block other j lt ∙ k.sizes j (omega (arith, lt, k.many)) ∙ sym (h.sizes j (omega (arith, lt, k.many))) ∙ sym (size_block blocks j (omega (arith, lt, k.many, h.many)))

  -- the place of a row and a column among the blocks
  pub record IsPlace (i p : ℕ) : Type 0 where
    pub within : p < length (flat blocks)
    pub same : (other : List (Vec ℤ)) → lengths other ≡ lengths blocks → at (seen m other) i ≡ at (flat other) p
    pub cell : (windows : List Window) → AreWindows m windows → (at (rows windows) p ≡ pos (i / m.cols)) × (at (cols windows) p ≡ pos (i % m.cols))

  place_in : (r c s t : ℕ) → r < m.rows → c < m.cols → s < m.grid_rows → t < m.grid_cols → (top m s ≤ r) × (r < top m (s + 1)) → (left m t ≤ c) × (c < left m (t + 1))
      → IsPlace (r * m.cols + c) (start blocks (s * m.grid_cols + t) + ((r - top m s) * width m t + (c - left m t)))
  place_in r c s t pr qc ps qt hr hc =
      let j = s * m.grid_cols + t in
      let a = r - top m s in
      let b = c - left m t in
      let k = a * width m t + b in
      let lt : j < length blocks = omega (arith, number_below m s t ps qt, h.many) in
      let pa = inside_of (top m s) (top m (s + 1)) r hr.0 hr.1 in
      let qb = inside_of (left m t) (left m (t + 1)) c hc.0 hc.1 in
      let below : k < width m t * height m s = mul-add-lt a (width m t) b (height m s) pa qb in
      let long : length (block blocks j) ≡ height m s * width m t = long_block m blocks h s t ps qt in
      let inside : k < length (block blocks j) = turned k (height m s) (width m t) (length (block blocks j)) long below in
      record {
        within = place_within blocks j k lt (subst (λ n. k < n) (sym (size_block blocks j lt)) inside);
        same = λ other e.
            let many = many_alike blocks other e in
            let lt_other : j < length other = omega (arith, lt, many) in
            let sizes : length (block other j) ≡ length (block blocks j) = sym (size_block other j lt_other) ∙ ap (λ xs. slice_index_or xs j 0) e ∙ size_block blocks j lt in
            seen_at m h.limits other r c s t pr qc ps qt hr hc
            ∙ sym (at_block other j k lt_other (subst (λ n. k < n) (sym sizes) inside))
            ∙ ap (λ x. at (flat other) (x + k)) (start_alike blocks other j e);
        cell = λ windows known.
            let here = in_window m blocks h windows known s t a b ps qt pa qb in (
              here.0 ∙ ap (λ n. pos n) (back (top m s) r hr.0 ∙ sym (div-mul-add r m.cols c qc)),
              here.1 ∙ ap (λ n. pos n) (back (left m t) c hc.0 ∙ sym (mod-mul-add r m.cols c qc)),
            );
      }
    where
      turned : (k x y n : ℕ) → n ≡ x * y → k < y * x → k < n
      turned k x y n e lt = omega (arith, e, lt)

  pub place : (i : ℕ) → i < m.rows * m.cols → (p : ℕ) × IsPlace i p
  place i lt =
      let some = some_cols m.rows m.cols i lt in
      let r : i / m.cols < m.rows = div_below i m.cols m.rows some lt in
      let c : i % m.cols < m.cols = omega arith in
      let is : i / m.cols * m.cols + i % m.cols ≡ i = omega arith in
      let s = (tiles m.rows m.grid_rows h.limits.grid_rows).each (i / m.cols) r in
      let t = (tiles m.cols m.grid_cols h.limits.grid_cols).each (i % m.cols) c in
      let p = start blocks (s.0 * m.grid_cols + t.0) + ((i / m.cols - top m s.0) * width m t.0 + (i % m.cols - left m t.0)) in
      (p, subst (λ k. IsPlace k p) is (place_in (i / m.cols) (i % m.cols) s.0 t.0 r c s.1 t.1 s.2 t.2))

  -- all outcomes in blocks are those at all places
  pub placed : (f g : ℕ → Result ℤ Fault) (out : List (Vec ℤ)) → ((i p : ℕ) → i < m.rows * m.cols → IsPlace i p → f i ≡ g p) → each (length (flat blocks)) g ≡ Ok (flat out) → lengths out ≡ lengths blocks
      → each (m.rows * m.cols) f ≡ Ok (seen m out)
  placed f g out same is e =
      let n = m.rows * m.cols in
      let all : IsEach (length (flat blocks)) g (Ok (flat out)) = subst (λ (r : Result (List ℤ) Fault). IsEach (length (flat blocks)) g r) is (each_is (length (flat blocks)) g) in
      one_each n f (each n f) (Ok (seen m out)) (each_is n f) (
        long_seen m h.limits out,
        λ i lt.
            let p = place i lt in
            same i p.0 lt p.1 ∙ all.1 p.0 p.1.within ∙ ap (λ z. Ok z) (sym (p.1.same out e)),
      )

  -- in one block the places stand as they are
  pub one_long : m.grid_rows ≡ 1 → m.grid_cols ≡ 1 → length (flat blocks) ≡ m.rows * m.cols
  one_long one_row one_col =
      let high : top m 1 ≡ m.rows = ap (λ n. begin m.rows n 1) one_row ∙ begin_last m.rows 1 (omega arith) in
      let last : left m 1 ≡ m.cols = ap (λ n. begin m.cols n 1) one_col ∙ begin_last m.cols 1 (omega arith) in
      let zero : 0 ≡ 0 * m.grid_cols + 0 = omega arith in
      one_block blocks (h.many ∙ ap₂ (λ x y. x * y) one_row one_col)
      ∙ ap (λ k. length (block blocks k)) zero
      ∙ long_block m blocks h 0 0 h.limits.grid_rows h.limits.grid_cols
      ∙ ap₂ (λ x y. x * y) (from_none (top m 1) (top m 0) m.rows high (begin_first m.rows m.grid_rows)) (from_none (left m 1) (left m 0) m.cols last (begin_first m.cols m.grid_cols))

  pub place_one : m.grid_rows ≡ 1 → m.grid_cols ≡ 1 → (i : ℕ) → i < m.rows * m.cols → IsPlace i i
  place_one one_row one_col i lt =
      let some = some_cols m.rows m.cols i lt in
      let r : i / m.cols < m.rows = div_below i m.cols m.rows some lt in
      let c : i % m.cols < m.cols = omega arith in
      let is : i / m.cols * m.cols + i % m.cols ≡ i = omega arith in
      let low : top m 0 ≡ 0 = begin_first m.rows m.grid_rows in
      let high : top m 1 ≡ m.rows = ap (λ n. begin m.rows n 1) one_row ∙ begin_last m.rows 1 (omega arith) in
      let first : left m 0 ≡ 0 = begin_first m.cols m.grid_cols in
      let last : left m 1 ≡ m.cols = ap (λ n. begin m.cols n 1) one_col ∙ begin_last m.cols 1 (omega arith) in
      let wide : width m 0 ≡ m.cols = from_none (left m 1) (left m 0) m.cols last first in
      let here = place_in (i / m.cols) (i % m.cols) 0 0 r c h.limits.grid_rows h.limits.grid_cols (omega (arith, low), omega (arith, high, r)) (omega (arith, first), omega (arith, last, c)) in
      let number : 0 * m.grid_cols + 0 ≡ 0 = omega arith in
      let inside : (i / m.cols - top m 0) * width m 0 + (i % m.cols - left m 0) ≡ i =
      ap₂ (λ x y. x * width m 0 + y) (from_none (i / m.cols) (top m 0) (i / m.cols) refl low) (from_none (i % m.cols) (left m 0) (i % m.cols) refl first)
      ∙ ap (λ x. i / m.cols * x + i % m.cols) wide
      ∙ is in
      let there = ap₂ (λ x y. x + y) (ap (start blocks) number ∙ start_first blocks) inside ∙ from_first i in
      subst (λ k. IsPlace k i) is (subst (IsPlace (i / m.cols * m.cols + i % m.cols)) there here)
