-- What stands at a place of windows.
use Rattle.std.proofs.Common.{◌≡◌, ◌<◌, ◌+◌, ◌/◌, ◌%◌, ℕ, ℤ, List, [], ◌∷◌, length, take, map, slice_index_or, pos, refl, sym, ap, ap₂, ◌∙◌, arith, length-append}
use Rattle.std.specs.List.{flat_map, sum_by}
use Rattle.std.specs.Global.{Vec}
use Rattle.std.proofs.lemmas.List.{take-map, length-map, get_or-map}
use Rattle.std.proofs.lemmas.List.Concat.{get_or-flat_map}
use Rattle.std.proofs.lemmas.List.FromFn.{length-map-range_with_len, get_or-map-range_with_len}
use Rattle.std.proofs.lemmas.List.Sums.{sum_by-cons, sum-map}
use Rattle.msl_lists.specs.Whole.{at, list_by}
use Rattle.msl_local.specs.declared.inputs.Window.{Window}
use Rattle.msl_local.specs.Parts.{start}
use Rattle.msl_local.specs.Windows.{AreFramed, area, begins, cols, rows, wide}
use Rattle.msl_local.proofs.Lists.{size, total_lengths}

module _ (f : Window → ℕ → ℤ) where
  abbrev numbers : Window → List ℤ
  numbers w = list_by (area w) (f w)

  long : (windows : List Window) → length (flat_map numbers windows) ≡ sum_by area windows
  long [] = refl
  long (w ∷ windows) =
      length-append (numbers w) (flat_map numbers windows) ∙ ap₂ (λ (n k : ℕ). n + k) (length-map-range_with_len (f w) 0 (area w)) (long windows) ∙ sym (sum_by-cons area w windows)

  -- number k of window m
  at_window : (windows : List Window) (m k : ℕ) (w : Window) → m < length windows → k < area (slice_index_or windows m w) → at (flat_map numbers windows) (begins windows m + k) ≡ f (slice_index_or windows m w) k
  at_window windows m k w lt inside =
      let there = slice_index_or windows m w in
      ap (λ s. at (flat_map numbers windows) (s + k)) (sym (long (take m windows)))
      ∙ get_or-flat_map numbers windows m k w (pos 0) lt (omega (arith, length-map-range_with_len (f there) 0 (area there), inside))
      ∙ get_or-map-range_with_len (f there) 0 (area there) k k (pos 0) inside (omega arith)

pub at_row : (windows : List Window) (m k : ℕ) (w : Window) → m < length windows → k < area (slice_index_or windows m w) → at (rows windows) (begins windows m + k) ≡ pos ((slice_index_or windows m w).above + k / wide (slice_index_or windows m w))
at_row = at_window (λ v i. pos (v.above + i / wide v))

pub at_col : (windows : List Window) (m k : ℕ) (w : Window) → m < length windows → k < area (slice_index_or windows m w) → at (cols windows) (begins windows m + k) ≡ pos ((slice_index_or windows m w).before + k % wide (slice_index_or windows m w))
at_col = at_window (λ v i. pos (v.before + i % wide v))

pub area_at : (windows : List Window) (m : ℕ) (w : Window) → m < length windows → slice_index_or (map area windows) m 0 ≡ area (slice_index_or windows m w)
area_at windows m w lt = get_or-map area windows m w 0 lt

-- ---- parts that are windows

module _ (windows : List Window) (parts : List (Vec ℤ)) (h : AreFramed windows parts) where
  pub many_framed : length windows ≡ length parts
  many_framed = sym (length-map windows area) ∙ ap length (sym h.long) ∙ length-map parts size

  pub begins_is : (m : ℕ) → begins windows m ≡ start parts m
  begins_is m =
      sym (sum-map area (take m windows))
      ∙ ap (λ xs. sum_by (λ x. x) xs) (sym (take-map area m windows) ∙ ap (take m) (sym h.long) ∙ take-map size m parts)
      ∙ sym (total_lengths (take m parts))
