-- The windows of blocks.
use Rattle.std.proofs.Common.{◌≡◌, ◌<◌, ◌≤◌, ◌+◌, ◌-◌, ◌*◌, ◌/◌, ◌%◌, ◌^◌, ℕ, ℤ, pos, List, [], ◌∷◌, length, map, slice_index_or, sym, subst, ap, ap₂, ◌∙◌, arith}
use Rattle.std.specs.Global.{Vec}
use Rattle.std.proofs.lemmas.Nat.{mul-le, mul-add-lt, div_below, div-mul-add, mod-mul-add}
use Rattle.std.proofs.lemmas.List.{ext_get_or, length-map}
use Rattle.std.proofs.lemmas.List.Elements.{All-from_get_or}
use Rattle.msl_lists.specs.Whole.{Extent, at}
use Rattle.msl_local.specs.declared.inputs.Window.{Window}
use Rattle.msl_local.specs.Parts.{lengths, start}
use Rattle.msl_local.specs.Windows.{AreFramed, area, begins, cols, rows, tall, wide}
use Rattle.msl_local.proofs.Blocks.{begin_within}
use Rattle.msl_local.proofs.Windows.{area_at, at_col, at_row, begins_is}
use Rattle.msl_matrix.specs.Grids.{AreWindows, IsExtent, IsWindow, height, left, top, width}
use Rattle.msl_matrix.specs.Matrices.{AreBlocks}
use Rattle.msl_matrix.proofs.Seen.{number_below, size_block}

module _ (m : Extent) (limits : IsExtent m) (j : ℕ) (w : Window) (lt : j < m.grid_rows * m.grid_cols) (is : IsWindow m j w) where
  pub is_tall : tall w ≡ height m (j / m.grid_cols)
  is_tall = ap₂ (λ x y. x - y) is.below is.above

  pub is_wide : wide w ≡ width m (j % m.grid_cols)
  is_wide = ap₂ (λ x y. x - y) is.behind is.before

  rows_few : w.below ≤ 2 ^ 60
  rows_few =
      let s : j / m.grid_cols < m.grid_rows = div_below j m.grid_cols m.grid_rows limits.grid_cols lt in
      let end = begin_within m.rows m.grid_rows (j / m.grid_cols + 1) limits.grid_rows (omega (arith, s)) in
      omega (arith, is.below, end, mul-le m.rows 1 m.rows m.cols (omega arith) limits.cols, limits.numbers)

  cols_few : w.behind ≤ 2 ^ 60
  cols_few =
      let t : j % m.grid_cols < m.grid_cols = let some = limits.grid_cols in omega arith in
      let end = begin_within m.cols m.grid_cols (j % m.grid_cols + 1) limits.grid_cols (omega (arith, t)) in
      omega (arith, is.behind, end, mul-le 1 m.cols m.rows m.cols limits.rows (omega arith), limits.numbers)

module _ (m : Extent) (blocks : List (Vec ℤ)) (h : AreBlocks m blocks) where
  pub framed : (windows : List Window) → AreWindows m windows → AreFramed windows blocks
  framed [] known = absurd (omega (arith, known.many, mul-le 1 1 m.grid_rows m.grid_cols h.limits.grid_rows h.limits.grid_cols))
  framed (d ∷ rest) known = record {
    long = ext_get_or 0 (lengths blocks) (map area windows) (length-map blocks _ ∙ h.many ∙ sym known.many ∙ sym (length-map windows _)) (λ j lt.
        let within : j < m.grid_rows * m.grid_cols = omega (arith, lt, length-map blocks (λ (v : Vec ℤ). length v.items), h.many) in
        let is = known.each j d within in
        size_block blocks j (omega (arith, within, h.many))
        ∙ h.sizes j within
        ∙ ap₂ (λ x y. x * y) (sym (is_tall m h.limits j _ within is)) (sym (is_wide m h.limits j _ within is))
        ∙ sym (area_at windows j d (omega (arith, within, known.many))));
    rows = All-from_get_or (λ (w : Window). w.below ≤ 2 ^ 60) windows d (λ j lt. let within : j < m.grid_rows * m.grid_cols = omega (arith, lt, known.many) in rows_few m h.limits j _ within (known.each j d within));
    cols = All-from_get_or (λ (w : Window). w.behind ≤ 2 ^ 60) windows d (λ j lt. let within : j < m.grid_rows * m.grid_cols = omega (arith, lt, known.many) in cols_few m h.limits j _ within (known.each j d within));
  }
    where
      windows : List Window
      windows = d ∷ rest

  -- the row and the column of a place of a block
  pub in_window : (windows : List Window) → AreWindows m windows → (s t a b : ℕ) → s < m.grid_rows → t < m.grid_cols → a < height m s → b < width m t
      → (at (rows windows) (start blocks (s * m.grid_cols + t) + (a * width m t + b)) ≡ pos (top m s + a)) × (at (cols windows) (start blocks (s * m.grid_cols + t) + (a * width m t + b)) ≡ pos (left m t + b))
  in_window [] known s t a b ps qt pa qb = absurd (omega (arith, known.many, number_below m s t ps qt))
  in_window (d ∷ rest) known s t a b ps qt pa qb = (
    ap (λ n. at (rows windows) (n + k)) begin
        ∙ at_row windows j k d lt inside
        ∙ ap (λ n. pos (there.above + k / n)) is_width
        ∙ ap (λ n. pos (there.above + n)) (div-mul-add a (width m t) b qb)
        ∙ ap (λ n. pos (n + a)) (is.above ∙ ap (top m) (div-mul-add s m.grid_cols t qt)),
    ap (λ n. at (cols windows) (n + k)) begin
        ∙ at_col windows j k d lt inside
        ∙ ap (λ n. pos (there.before + k % n)) is_width
        ∙ ap (λ n. pos (there.before + n)) (mod-mul-add a (width m t) b qb)
        ∙ ap (λ n. pos (n + b)) (is.before ∙ ap (left m) (mod-mul-add s m.grid_cols t qt)),
  )
    where
      windows : List Window
      windows = d ∷ rest

      j : ℕ
      j = s * m.grid_cols + t

      k : ℕ
      k = a * width m t + b

      there : Window
      there = slice_index_or windows j d

      begin : start blocks j ≡ begins windows j
      begin = sym (begins_is windows blocks (framed windows known) j)

      within : j < m.grid_rows * m.grid_cols
      within = number_below m s t ps qt

      lt : j < length windows
      lt = omega (arith, within, known.many)

      is : IsWindow m j there
      is = known.each j d within

      is_width : wide there ≡ width m t
      is_width = is_wide m h.limits j there within is ∙ ap (width m) (mod-mul-add s m.grid_cols t qt)

      is_height : tall there ≡ height m s
      is_height = is_tall m h.limits j there within is ∙ ap (height m) (div-mul-add s m.grid_cols t qt)

      inside : k < area there
      inside = subst (λ n. k < n) (sym (ap₂ (λ x y. x * y) is_height is_width)) (omega (arith, mul-add-lt a (width m t) b (height m s) pa qb))
