-- Lists that are kept in an array, as they grow and as they are made.
use Rattle.std.proofs.Common.{arith, ◌≡◌, ℕ, ◌+◌, ◌-◌, ◌<◌, ◌≤◌, List, ◌++◌, length, drop, set, replicate, ap, sym, ◌∙◌, length-append, length-drop}
use Rattle.std.proofs.lemmas.List.{drop-set-lt, drop-drop, drop-replicate, length-set, length-replicate}
use Rattle.std.proofs.lemmas.Slice.{drop-append-drop}
use Rattle.msl_base.specs.Padding.{IsPadded}

-- one more element
pub IsPadded-push : {A : Type 0} (size : ℕ) (filler x : A) (n : ℕ) (places : List A) → n < size → IsPadded size filler n places → IsPadded size filler (n + 1) (set places n x)
IsPadded-push {A = A} size filler x n places room h = record {
  within = omega (arith, room);
  size_is = length-set places n x ∙ h.size_is;
  unused = drop-set-lt (n + 1) places n x (omega arith) ∙ sym (drop-drop 1 n places) ∙ ap (drop 1) h.unused ∙ drop-replicate 1 (size - n) filler
      ∙ ap (λ (k : ℕ). replicate k filler) (omega arith);
}

-- a whole list, and the filler that was there before
pub IsPadded-made : {A : Type 0} (size : ℕ) (filler : A) (n : ℕ) (xs : List A) → length xs ≡ n → n ≤ size → IsPadded size filler n (xs ++ drop n (replicate size filler))
IsPadded-made size filler n xs long fits = record {
  within = fits;
  size_is = omega (arith, length-append xs (drop n (replicate size filler)), length-drop n (replicate size filler), length-replicate size filler, long, fits);
  unused = drop-append-drop n (replicate size filler) xs n (omega arith) long ∙ drop-replicate n size filler;
}
