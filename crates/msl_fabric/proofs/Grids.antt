-- Boxes that are replaced, taken and turned.
use Rattle.std.proofs.Common.{◌≡◌, ℕ, ◌+◌, ◌*◌, ◌<◌, List, [], ◌∷◌, ◌++◌, length, get_or, set, map, replicate, sym, ap, ◌∙◌, arith}
use Rattle.std.proofs.lemmas.List.{get_or-set_same, get_or-set_other, length-set, map-set, get_or-map, map_push, replicate_more}
use Rattle.std.proofs.lemmas.List.Edits.{swap_is}
use Rattle.std.proofs.lemmas.List.FromFn.{map-range_with_len_more}
use Rattle.std.proofs.lemmas.Nat.{mul-add-lt, same_from_place}
use Rattle.std.specs.List.{swap, range_with_len}
use Rattle.msl_base.specs.Records.{Kept}
use Rattle.msl_base.specs.Streams.{Record}
use Rattle.msl_fabric.specs.Grids.{Grid, IsWhole, box_at, with_box, records}

abbrev pub numbers : Kept → Record
numbers x = x.numbers

module _ (b : Grid) (whole : IsWhole b) (i j : ℕ) (x : Record) (p : i < b.n) (q : j < b.n) where
  pub box-same : box_at (with_box b i j x) i j ≡ x
  box-same = get_or-set_same b.boxes (i * b.n + j) x [] (omega (arith, mul-add-lt i b.n j b.n p q, whole))

  pub box-other : (a c : ℕ) → c < b.n → (a ≡ i → c ≡ j → ⊥) → box_at (with_box b i j x) a c ≡ box_at b a c
  box-other a c lt other = get_or-set_other b.boxes (i * b.n + j) (a * b.n + c) x [] (λ e. let same = same_from_place a c i j b.n lt q e in other same.0 same.1)

  pub with-whole : IsWhole (with_box b i j x)
  with-whole = length-set b.boxes (i * b.n + j) x ∙ whole

abbrev pub turn : Grid → ℕ → ℕ → Grid
turn b i j = with_box (with_box b i j (box_at b j i)) j i (box_at b i j)

module _ (b : Grid) (whole : IsWhole b) (i j : ℕ) (p : i < b.n) (q : j < b.n) where
  half : IsWhole (with_box b i j (box_at b j i))
  half = with-whole b whole i j (box_at b j i) p q

  pub turn-whole : IsWhole (turn b i j)
  turn-whole = with-whole (with_box b i j (box_at b j i)) half j i (box_at b i j) q p

  pub turn-there : (i ≡ j → ⊥) → box_at (turn b i j) i j ≡ box_at b j i
  turn-there apart =
      box-other (with_box b i j (box_at b j i)) half j i (box_at b i j) q p i j q (λ e f. apart e) ∙ box-same b whole i j (box_at b j i) p q

  pub turn-back : box_at (turn b i j) j i ≡ box_at b i j
  turn-back = box-same (with_box b i j (box_at b j i)) half j i (box_at b i j) q p

  pub turn-other : (a c : ℕ) → c < b.n → (a ≡ i → c ≡ j → ⊥) → (a ≡ j → c ≡ i → ⊥) → box_at (turn b i j) a c ≡ box_at b a c
  turn-other a c lt e f =
      box-other (with_box b i j (box_at b j i)) half j i (box_at b i j) q p a c lt f ∙ box-other b whole i j (box_at b j i) p q a c lt e

-- the records of a list two of whose elements change places
pub records-swap : (xs : List Kept) (i j : ℕ) → i < length xs → j < length xs → records (swap xs i j) ≡ set (set (records xs) i (get_or (records xs) j [])) j (get_or (records xs) i [])
records-swap xs i j p q =
    let d : Kept = record { numbers = []; spare = 0 } in
    ap records (sym (swap_is xs i j d p q))
    ∙ map-set numbers (set xs i (get_or xs j d)) j (get_or xs i d)
    ∙ ap (λ (l : List Record). set l j (numbers (get_or xs i d))) (map-set numbers xs i (get_or xs j d))
    ∙ ap (λ (a : Record). set (set (records xs) i a) j (numbers (get_or xs i d))) (sym (get_or-map numbers xs j d [] q))
    ∙ ap (λ (a : Record). set (set (records xs) i (get_or (records xs) j [])) j a) (sym (get_or-map numbers xs i d [] p))

module _ (xs ys : List Kept) (x : Kept) (more : ys ≡ xs ++ x ∷ []) where
  records-more : (front : List Record) (a : Record) → records xs ≡ front → x.numbers ≡ a → records ys ≡ front ++ a ∷ []
  records-more front a is last =
      ap records more ∙ map_push numbers xs x ∙ ap (λ (l : List Record). l ++ x.numbers ∷ []) is ∙ ap (λ (r : Record). front ++ r ∷ []) last

  -- one more of the same
  pub alike-more : (a : Record) (n : ℕ) → records xs ≡ replicate n a → x.numbers ≡ a → records ys ≡ replicate (n + 1) a
  alike-more a n is last = records-more (replicate n a) a is last ∙ replicate_more n a

  -- one more of what a function gives
  pub given-more : (f : ℕ → Record) (n : ℕ) → records xs ≡ map f (range_with_len 0 n) → x.numbers ≡ f n → records ys ≡ map f (range_with_len 0 (n + 1))
  given-more f n is last = records-more (map f (range_with_len 0 n)) (f n) is last ∙ sym (map-range_with_len_more f 0 n n (omega arith))
