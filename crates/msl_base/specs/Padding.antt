-- A short list that is kept in an array of fixed size: the list in front, and one filler in all places behind it.
use Rattle.std.specs.Prelude.{ℕ, ◌≡◌, ◌-◌, ◌≤◌, List, ◌++◌, length, take, drop, replicate}
use Rattle.std.proofs.Common.{ap, sym, ◌∙◌, arith}
use Rattle.std.proofs.lemmas.List.{take-append-drop, length-take-le}

-- the list, and the filler up to the size
abbrev pub padded : {A : Type 0} → ℕ → A → List A → List A
padded size filler xs = xs ++ replicate (size - length xs) filler

-- the first n places are the list
pub record IsPadded {A : Type 0} (size : ℕ) (filler : A) (n : ℕ) (places : List A) : Type 0 where
  pub within : n ≤ size
  pub size_is : length places ≡ size
  pub unused : drop n places ≡ replicate (size - n) filler

pub length-front : {A : Type 0} (size : ℕ) (filler : A) (n : ℕ) (places : List A) → IsPadded size filler n places → length (take n places) ≡ n
length-front size filler n places h = search (arith, length-take-le, h.within, h.size_is)

-- the list gives the places back
pub padded-front : {A : Type 0} (size : ℕ) (filler : A) (n : ℕ) (places : List A) → IsPadded size filler n places → padded size filler (take n places) ≡ places
padded-front {A = A} size filler n places h =
    ap (λ (m : ℕ). take n places ++ replicate (size - m) filler) (length-front size filler n places h)
    ∙ ap (λ (t : List A). take n places ++ t) (sym h.unused)
    ∙ take-append-drop n places
