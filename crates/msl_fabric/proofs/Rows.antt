-- Rows and columns that are put from their last record on, and taken from their first; what an exchange makes of them.
use Rattle.std.proofs.Common.{◌≡◌, ℕ, ◌+◌, ◌<◌, ◌≤◌, List, [], ◌∷◌, ◌++◌, length, get_or, take, map, sym, ap, ◌∙◌, subst, arith, inl, inr, ◌⊎◌}
use Rattle.std.proofs.lemmas.Bool.{cases_lt}
use Rattle.std.proofs.lemmas.List.{take_more, same_from_push, get_or-map, length-map}
use Rattle.std.proofs.lemmas.List.FromFn.{fill_by_all, length-map-range_with_len, get_or-map-range_with_len}
use Rattle.std.specs.List.{range_with_len}
use Rattle.msl_base.specs.Records.{Kept}
use Rattle.msl_base.specs.Streams.{Record}
use Rattle.msl_fabric.specs.Grids.{Grid, IsWhole, box_at, with_box, row, column, records, IsExchange}
use Rattle.msl_fabric.proofs.Grids.{numbers, box-same, box-other, with-whole}

-- the last of the first j + 1 elements, and those before it
pub popped : (xs front : List Kept) (x : Kept) (j : ℕ) → j < length xs → take (j + 1) xs ≡ front ++ x ∷ [] → (front ≡ take j xs) × (x ≡ get_or xs j x)
popped xs front x j lt h = same_from_push front (take j xs) x (get_or xs j x) (sym h ∙ take_more xs j x lt)

-- what a function gives from place k on are the records of a list
abbrev pub FilledFrom : ℕ → (ℕ → Record) → List Kept → Type 0
FilledFrom k f xs = (m : ℕ) → k ≤ m → m < length xs → f m ≡ get_or (records xs) m []

filled-more : (j : ℕ) (f g : ℕ → Record) (xs : List Kept) (x : Kept) → j < length xs → x ≡ get_or xs j x → g j ≡ x.numbers → ((m : ℕ) → j < m → m < length xs → g m ≡ f m)
    → FilledFrom (j + 1) f xs → FilledFrom j g xs
filled-more j f g xs x lt is here others h m low high = go (cases_lt j m)
  where
    go : (j < m) ⊎ (m ≤ j) → g m ≡ get_or (records xs) m []
    go (inl l) = others m l high ∙ h m (omega (arith, l)) high
    go (inr l) =
        let e : j ≡ m = omega (arith, l, low) in
        subst (λ k. g k ≡ get_or (records xs) k []) e (here ∙ ap numbers is ∙ sym (get_or-map numbers xs j x [] lt))

pub filled-all : (f : ℕ → Record) (n : ℕ) (xs : List Kept) → n ≡ length xs → FilledFrom 0 f xs → map f (range_with_len 0 n) ≡ records xs
filled-all f n xs e h = sym (fill_by_all f (records xs) n [] (length-map xs numbers ∙ sym e) (λ k lt. sym (h k (omega arith) (omega (arith, lt, e)))))

module _ (b after : Grid) (whole : IsWhole b) (i j : ℕ) (x : Kept) (p : i < b.n) (q : j < b.n) (e : after ≡ with_box b i j x.numbers) where
  pub put-whole : IsWhole after
  put-whole = subst IsWhole (sym e) (with-whole b whole i j x.numbers p q)

  pub put-row : (xs : List Kept) → length xs ≡ b.n → x ≡ get_or xs j x → FilledFrom (j + 1) (box_at b i) xs → FilledFrom j (box_at after i) xs
  put-row xs long is =
      filled-more j (box_at b i) (box_at after i) xs x (omega (arith, q, long)) is
      (ap (λ (g : Grid). box_at g i j) e ∙ box-same b whole i j x.numbers p q)
      (λ m lt high. ap (λ (g : Grid). box_at g i m) e ∙ box-other b whole i j x.numbers p q i m (omega (arith, high, long)) (λ s t. omega (arith, t, lt)))

  pub put-column : (xs : List Kept) → length xs ≡ b.n → x ≡ get_or xs i x → FilledFrom (i + 1) (λ m. box_at b m j) xs → FilledFrom i (λ m. box_at after m j) xs
  put-column xs long is =
      filled-more i (λ m. box_at b m j) (λ m. box_at after m j) xs x (omega (arith, p, long)) is
      (ap (λ (g : Grid). box_at g i j) e ∙ box-same b whole i j x.numbers p q)
      (λ m lt high. ap (λ (g : Grid). box_at g m j) e ∙ box-other b whole i j x.numbers p q m j q (λ s t. omega (arith, s, lt)))

module _ (b after : Grid) (whole : IsWhole b) (i j : ℕ) (p : i < b.n) (q : j < b.n) (e : after ≡ with_box b i j []) where
  pub take-whole : IsWhole after
  take-whole = subst IsWhole (sym e) (with-whole b whole i j [] p q)

  pub take-other : (a c : ℕ) → c < b.n → (a ≡ i → c ≡ j → ⊥) → box_at after a c ≡ box_at b a c
  take-other a c lt other = ap (λ (g : Grid). box_at g a c) e ∙ box-other b whole i j [] p q a c lt other

same-range : (f g : ℕ → Record) (n : ℕ) → ((k : ℕ) → k < n → f k ≡ g k) → map f (range_with_len 0 n) ≡ map g (range_with_len 0 n)
same-range f g n h =
    fill_by_all g (map f (range_with_len 0 n)) n [] (length-map-range_with_len f 0 n) (λ k lt. get_or-map-range_with_len f 0 n k k [] lt (omega arith) ∙ h k lt)

module _ (out got : Grid) (h : IsExchange out got) (r : ℕ) (lt : r < out.n) where
  -- what a member got is what each has for it
  pub column-got : column got r ≡ row out r
  column-got = ap (λ n. map (λ i. box_at got i r) (range_with_len 0 n)) h.members ∙ same-range (λ i. box_at got i r) (λ j. box_at out r j) out.n (λ k p. h.turned k r p lt)

  pub row-got : row got r ≡ column out r
  row-got = ap (λ n. map (λ j. box_at got r j) (range_with_len 0 n)) h.members ∙ same-range (λ j. box_at got r j) (λ i. box_at out i r) out.n (λ k p. h.turned r k lt p)
