-- Rows and columns that are cut out of a list, row after row.
use Rattle.std.proofs.Common.{◌≡◌, ◌<◌, ◌≤◌, ◌+◌, ◌-◌, ◌*◌, ℕ, ℤ, pos, List, ◌++◌, length, take, drop, sym, ap, ◌∙◌, arith, inl, inr, ◌⊎◌, length-append}
use Rattle.std.proofs.lemmas.Bool.{cases_lt}
use Rattle.std.proofs.lemmas.Nat.{mul-add-lt}
use Rattle.std.proofs.lemmas.List.{get_or_append_left, get_or-append_right, get_or-take, get_or-drop, length-take, length-drop}
use Rattle.msl_lists.specs.Whole.{at, cell}
use Rattle.msl_matrix.specs.Matrices.{IsCut}

-- place b of a row that is read from place `from` on
pub at_row : (xs : List ℤ) (from w b : ℕ) → b < w → at (take w (drop from xs)) b ≡ at xs (from + b)
at_row xs from w b lt = get_or-take w (drop from xs) b (pos 0) lt ∙ get_or-drop from xs b (pos 0)

pub long_row : (xs : List ℤ) (from w : ℕ) → from + w ≤ length xs → length (take w (drop from xs)) ≡ w
long_row xs from w few = omega (arith, length-take w (drop from xs), length-drop from xs, few)

next_rows : (above r : ℕ) → above ≤ r → r + 1 - above ≡ r - above + 1
next_rows above r order = omega (arith, order)

one_more : (n w : ℕ) → (n + 1) * w ≡ n * w + w
one_more n w = omega arith

module _ (cols : ℕ) (xs : List ℤ) (above r before behind : ℕ) (ys : List ℤ) (h : IsCut cols xs above r before behind ys) (order : above ≤ r) (few : r * cols + before + (behind - before) ≤ length xs) where
  row : List ℤ
  row = take (behind - before) (drop (r * cols + before) xs)

  longer : length (ys ++ take (behind - before) (drop (r * cols + before) xs)) ≡ (r + 1 - above) * (behind - before)
  longer =
      length-append ys (take (behind - before) (drop (r * cols + before) xs))
      ∙ ap (λ k. k + length (take (behind - before) (drop (r * cols + before) xs))) h.long
      ∙ ap (λ k. (r - above) * (behind - before) + k) (long_row xs (r * cols + before) (behind - before) few)
      ∙ sym (one_more (r - above) (behind - before))
      ∙ ap (λ k. k * (behind - before)) (sym (next_rows above r order))

  here : (a b : ℕ) → a < r + 1 - above → b < behind - before → (a < r - above) ⊎ (r - above ≤ a)
      → at (ys ++ take (behind - before) (drop (r * cols + before) xs)) (a * (behind - before) + b) ≡ cell cols xs (above + a) (before + b)
  here a b lt inside (inl old) =
      let w = behind - before in
      let within : a * w + b < length ys = omega (arith, h.long, mul-add-lt a w b (r - above) old inside) in
      get_or_append_left ys (take w (drop (r * cols + before) xs)) (pos 0) (a * w + b) within ∙ h.each a b old inside
  here a b lt inside (inr more) =
      let w = behind - before in
      let last : a ≡ r - above = omega (arith, lt, more, order) in
      let row : above + a ≡ r = omega (arith, last, order) in
      let rest : a * w + b - (r - above) * w ≡ b = ap (λ k. k * w + b - (r - above) * w) last ∙ omega arith in
      let behind_ys : (r - above) * w ≤ a * w + b = omega (arith, ap (λ k. k * w) last) in
      get_or-append_right ys (take w (drop (r * cols + before) xs)) ((r - above) * w) (a * w + b) (pos 0) h.long behind_ys
      ∙ ap (at (take w (drop (r * cols + before) xs))) rest
      ∙ at_row xs (r * cols + before) w b inside
      ∙ ap (at xs) (omega arith)
      ∙ ap (λ k. at xs (k * cols + (before + b))) (sym row)

  pub cut_more : IsCut cols xs above (r + 1) before behind (ys ++ take (behind - before) (drop (r * cols + before) xs))
  cut_more = record {
    long = longer;
    each = λ a b lt inside. here a b lt inside (cases_lt a (r - above));
  }
