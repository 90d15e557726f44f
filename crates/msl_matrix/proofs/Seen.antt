-- Where the places of a matrix stand in its blocks.
use Rattle.std.proofs.Common.{◌≡◌, ◌<◌, ◌≤◌, ◌+◌, ◌-◌, ◌*◌, ◌/◌, ◌%◌, ℕ, ℤ, pos, List, [], ◌∷◌, length, slice_index_or, Result, Ok, Err, IfOk, sym, subst, ap, ◌∙◌, arith}
use Rattle.std.specs.Global.{Vec}
use Rattle.std.proofs.lemmas.Nat.{mul-add-lt, div_below, div-mul-add, mod-mul-add}
use Rattle.std.proofs.lemmas.List.{ext_get_or, get_or-map}
use Rattle.msl_base.specs.Blocks.{IsInBlock, block_of}
use Rattle.msl_base.proofs.Tiles.{tiles, block_is}
use Rattle.msl_side.specs.Places.{Led}
use Rattle.msl_lists.specs.Whole.{Extent, at, cell}
use Rattle.msl_lists.proofs.WholeMoves.{long_by, cell_by}
use Rattle.msl_lists.proofs.WholeUnique.{some_cols}
use Rattle.msl_local.specs.Parts.{lengths}
use Rattle.msl_local.proofs.Blocks.{begin_within}
use Rattle.msl_local.proofs.Lists.{size_at}
use Rattle.msl_matrix.specs.Grids.{IsExtent, top, left, height, width}
use Rattle.msl_matrix.specs.Matrices.{AreBlocks, IsBlock, IsCut, block, seen, stands}

-- ---- blocks of a list of blocks

pub block_at : (blocks : List (Vec ℤ)) (j : ℕ) (d : Vec ℤ) → j < length blocks → block blocks j ≡ (slice_index_or blocks j d).items
block_at blocks j d lt = get_or-map (λ (v : Vec ℤ). v.items) blocks j d [] lt

pub size_block : (a : List (Vec ℤ)) (j : ℕ) → j < length a → slice_index_or (lengths a) j 0 ≡ length (block a j)
size_block [] j lt = absurd (omega (arith, lt))
size_block (v ∷ a) j lt = size_at (v ∷ a) j v lt ∙ sym (ap length (block_at (v ∷ a) j v lt))

pub block_read : (blocks : List (Vec ℤ)) (j : ℕ) (v : Vec ℤ) → j < length blocks → v ≡ slice_index_or blocks j v → v.items ≡ block blocks j
block_read blocks j v lt is = ap (λ (w : Vec ℤ). w.items) is ∙ sym (block_at blocks j v lt)

pub each_block : (P : ℕ → List ℤ → Type 0) (n : ℕ) (blocks : List (Vec ℤ)) → length blocks ≡ n → ((j : ℕ) (d : Vec ℤ) → j < n → P j (slice_index_or blocks j d).items) → (j : ℕ) → j < n → P j (block blocks j)
each_block P n [] long h j lt = absurd (omega (arith, long, lt))
each_block P n (v ∷ rest) long h j lt = subst (P j) (sym (block_at (v ∷ rest) j v (omega (arith, long, lt)))) (h j v lt)

-- blocks that are made in turn
pub led_blocks : (E : Type 0) (gives : ℕ → Result (Vec ℤ) E → Type 0) (P : ℕ → List ℤ → Type 0) (Q : Vec (Vec ℤ) → Type 0) (n : ℕ) (r : Result (Vec (Vec ℤ)) E) → Led gives n r
    → ((j : ℕ) (v : Vec ℤ) → j < n → gives j (Ok v) → P j v.items)
    → ((w : Vec (Vec ℤ)) → length w.items ≡ n → ((j : ℕ) → j < n → P j (block w.items j)) → Q w) → IfOk r Q
led_blocks E gives P Q n (Ok w) led h q = q w led.0 (each_block P n w.items led.0 (λ j d lt. h j (slice_index_or w.items j d) lt (led.1 j d lt)))
led_blocks E gives P Q n (Err e) led h q = tt

-- ---- rows and columns of blocks

pub behind : (lo hi a : ℕ) → a < hi - lo → lo + a < hi
behind lo hi a lt = omega (arith, lt)

pub past : (lo a : ℕ) → lo + a - lo ≡ a
past lo a = omega arith

pub inside_of : (lo hi i : ℕ) → lo ≤ i → i < hi → i - lo < hi - lo
inside_of lo hi i order lt = omega (arith, order, lt)

pub back : (lo i : ℕ) → lo ≤ i → lo + (i - lo) ≡ i
back lo i order = omega (arith, order)

before_all : (i hi n : ℕ) → i < hi → hi ≤ n → i < n
before_all i hi n lt few = omega (arith, lt, few)

pub after : (lo a : ℕ) → lo ≤ lo + a
after lo a = omega arith

next : (s n : ℕ) → s < n → s + 1 ≤ n
next s n lt = omega (arith, lt)

same_cells : (rows cols : ℕ) (x y : List ℤ) → length x ≡ rows * cols → length y ≡ rows * cols → ((r c : ℕ) → r < rows → c < cols → cell cols x r c ≡ cell cols y r c) → x ≡ y
same_cells rows cols x y p q h = ext_get_or (pos 0) x y (p ∙ sym q) (λ i lt. here i (omega (arith, p)))
  where
    here : (i : ℕ) → i < rows * cols → at x i ≡ at y i
    here i lt =
        let some = some_cols rows cols i lt in
        let is : i / cols * cols + i % cols ≡ i = omega arith in
        ap (at x) (sym is) ∙ h (i / cols) (i % cols) (div_below i cols rows some lt) (omega arith) ∙ ap (at y) is

pub number_below : (m : Extent) (s t : ℕ) → s < m.grid_rows → t < m.grid_cols → s * m.grid_cols + t < m.grid_rows * m.grid_cols
number_below m s t p q = omega (arith, mul-add-lt s m.grid_cols t m.grid_rows p q)

module _ (m : Extent) (limits : IsExtent m) where
  pub row_below : (s a : ℕ) → s < m.grid_rows → a < height m s → top m s + a < m.rows
  row_below s a lt inside = before_all (top m s + a) (top m (s + 1)) m.rows (behind (top m s) (top m (s + 1)) a inside) (begin_within m.rows m.grid_rows (s + 1) limits.grid_rows (next s m.grid_rows lt))

  pub col_below : (t b : ℕ) → t < m.grid_cols → b < width m t → left m t + b < m.cols
  col_below t b lt inside = before_all (left m t + b) (left m (t + 1)) m.cols (behind (left m t) (left m (t + 1)) b inside) (begin_within m.cols m.grid_cols (t + 1) limits.grid_cols (next t m.grid_cols lt))

  pub height_within : (s : ℕ) → s < m.grid_rows → height m s ≤ m.rows
  height_within s lt = let e = begin_within m.rows m.grid_rows (s + 1) limits.grid_rows (next s m.grid_rows lt) in at_most (top m s) (top m (s + 1)) m.rows e
    where
      at_most : (lo hi n : ℕ) → hi ≤ n → hi - lo ≤ n
      at_most lo hi n few = omega (arith, few)

  pub width_within : (t : ℕ) → t < m.grid_cols → width m t ≤ m.cols
  width_within t lt = let e = begin_within m.cols m.grid_cols (t + 1) limits.grid_cols (next t m.grid_cols lt) in at_most (left m t) (left m (t + 1)) m.cols e
    where
      at_most : (lo hi n : ℕ) → hi ≤ n → hi - lo ≤ n
      at_most lo hi n few = omega (arith, few)

  module _ (blocks : List (Vec ℤ)) where
    pub long_seen : length (seen m blocks) ≡ m.rows * m.cols
    unfolding seen
    long_seen = long_by (m.rows * m.cols) (λ i. stands m blocks (i / m.cols) (i % m.cols))

    pub seen_at : (r c s t : ℕ) → r < m.rows → c < m.cols → s < m.grid_rows → t < m.grid_cols → IsInBlock m.rows m.grid_rows s r → IsInBlock m.cols m.grid_cols t c
        → cell m.cols (seen m blocks) r c ≡ at (block blocks (s * m.grid_cols + t)) ((r - top m s) * width m t + (c - left m t))
    unfolding seen stands
    seen_at r c s t p q ps qt hr hc =
        let there = λ (x y : ℕ). at (block blocks (x * m.grid_cols + y)) ((r - top m x) * width m y + (c - left m y)) in
        cell_by m.rows m.cols (stands m blocks) r c p q
        ∙ ap (λ x. there x (block_of m.cols m.grid_cols c)) (block_is m.rows m.grid_rows s r ps hr)
        ∙ ap (λ y. there s y) (block_is m.cols m.grid_cols t c qt hc)

    pub seen_in : (s t a b : ℕ) → s < m.grid_rows → t < m.grid_cols → a < height m s → b < width m t
        → cell m.cols (seen m blocks) (top m s + a) (left m t + b) ≡ at (block blocks (s * m.grid_cols + t)) (a * width m t + b)
    seen_in s t a b ps qt pa qb =
        seen_at (top m s + a) (left m t + b) s t (row_below s a ps pa) (col_below t b qt qb) ps qt
        (after (top m s) a, behind (top m s) (top m (s + 1)) a pa) (after (left m t) b, behind (left m t) (left m (t + 1)) b qb)
        ∙ ap (λ x. at (block blocks (s * m.grid_cols + t)) (x * width m t + (left m t + b - left m t))) (past (top m s) a)
        ∙ ap (λ y. at (block blocks (s * m.grid_cols + t)) (a * width m t + y)) (past (left m t) b)

    -- the list whose numbers stand in the blocks
    pub seen_is : (xs : List ℤ) → length xs ≡ m.rows * m.cols
        → ((s t a b : ℕ) → s < m.grid_rows → t < m.grid_cols → a < height m s → b < width m t → at (block blocks (s * m.grid_cols + t)) (a * width m t + b) ≡ cell m.cols xs (top m s + a) (left m t + b))
        → seen m blocks ≡ xs
    seen_is xs long h = same_cells m.rows m.cols (seen m blocks) xs long_seen long (λ r c p q.
        let s = (tiles m.rows m.grid_rows limits.grid_rows).each r p in
        let t = (tiles m.cols m.grid_cols limits.grid_cols).each c q in
        seen_at r c s.0 t.0 p q s.1 t.1 s.2 t.2
        ∙ h s.0 t.0 (r - top m s.0) (c - left m t.0) s.1 t.1 (inside_of (top m s.0) (top m (s.0 + 1)) r s.2.0 s.2.1) (inside_of (left m t.0) (left m (t.0 + 1)) c t.2.0 t.2.1)
        ∙ ap (λ k. cell m.cols xs k (left m t.0 + (c - left m t.0))) (back (top m s.0) r s.2.0)
        ∙ ap (cell m.cols xs r) (back (left m t.0) c t.2.0))

    -- what is known of each block by its number
    pub by_number : (P : ℕ → ℕ → ℕ → Type 0) → ((j : ℕ) → j < m.grid_rows * m.grid_cols → P (j / m.grid_cols) (j % m.grid_cols) j)
        → (s t : ℕ) → s < m.grid_rows → t < m.grid_cols → P s t (s * m.grid_cols + t)
    by_number P h s t ps qt =
        let j = s * m.grid_cols + t in
        let known = h j (number_below m s t ps qt) in
        subst (λ y. P s y j) (mod-mul-add s m.grid_cols t qt) (subst (λ x. P x (j % m.grid_cols) j) (div-mul-add s m.grid_cols t qt) known)

    pub cut_is : (xs : List ℤ) → length xs ≡ m.rows * m.cols → ((j : ℕ) → j < m.grid_rows * m.grid_cols → IsBlock m xs j (block blocks j)) → seen m blocks ≡ xs
    cut_is xs long h = seen_is xs long (λ s t a b ps qt pa qb.
        let cut = by_number (λ s t j. IsCut m.cols xs (top m s) (top m (s + 1)) (left m t) (left m (t + 1)) (block blocks j)) h s t ps qt in
        cut.each a b pa qb)

    pub cut_blocks : (xs : List ℤ) → length blocks ≡ m.grid_rows * m.grid_cols → ((j : ℕ) → j < m.grid_rows * m.grid_cols → IsBlock m xs j (block blocks j)) → AreBlocks m blocks
    cut_blocks xs many h = record {
      limits = limits;
      many = many;
      sizes = λ j lt. (h j lt).long;
    }
