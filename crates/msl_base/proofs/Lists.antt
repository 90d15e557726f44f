-- Lists that are cut at some of their elements.
use Rattle.std.proofs.Common.{arith, ◌≡◌, List, [], ◌∷◌, ◌++◌, length, ap, sym, refl, ◌∙◌, subst, Bool, true, false, cond}
use Rattle.std.proofs.lemmas.List.Elements.{All-head, All-tail}
use Rattle.std.proofs.lemmas.List.Splits.{slice_split-cons_yes, slice_split-cons_no}
use Rattle.std.specs.List.{All, slice_split, onto_first}

-- the first part goes on, and others follow
pub record Begins {A : Type 0} (front : List A) (parts : List (List A)) : Type 0 where
  pub more : List A
  pub others : List (List A)
  pub is : parts ≡ (front ++ more) ∷ others

onto-begins : {A : Type 0} (x : A) (front : List A) (parts : List (List A)) → Begins front parts → Begins (x ∷ front) (onto_first x parts)
onto-begins x front parts b = record { more = b.more; others = b.others; is = ap (onto_first x) b.is }

onto-some : {A : Type 0} (x : A) (parts : List (List A)) → Begins [] (onto_first x parts)
onto-some x [] = record { more = x ∷ []; others = []; is = refl }
onto-some x (part ∷ parts) = record { more = x ∷ part; others = parts; is = refl }

onto-append : {A : Type 0} (x : A) (parts others : List (List A)) → Begins [] parts → onto_first x (parts ++ others) ≡ onto_first x parts ++ others
onto-append x [] others b = absurd (omega (arith, ap length b.is))
onto-append x (part ∷ parts) others b = refl

module _ {A : Type 0} (cuts : A → Bool) where
  split-some-by : (x : A) (xs : List A) (t : Bool) → Begins [] (cond t ([] ∷ slice_split cuts xs) (onto_first x (slice_split cuts xs)))
  split-some-by x xs true = record { more = []; others = slice_split cuts xs; is = refl }
  split-some-by x xs false = onto-some x (slice_split cuts xs)

  split-some : (xs : List A) → Begins [] (slice_split cuts xs)
  split-some [] = record { more = []; others = []; is = refl }
  split-some (x ∷ xs) = split-some-by x xs (cuts x)

  -- what is not cut is the front of the first part
  pub split-begins : (front ys : List A) → All (λ (x : A). cuts x ≡ false) front → Begins front (slice_split cuts (front ++ ys))
  split-begins [] ys h = split-some ys
  split-begins (x ∷ front) ys h =
      subst (Begins (x ∷ front)) (sym (slice_split-cons_no cuts x (front ++ ys) (All-head (λ (x : A). cuts x ≡ false) x front h)))
      (onto-begins x front (slice_split cuts (front ++ ys)) (split-begins front ys (All-tail (λ (x : A). cuts x ≡ false) x front h)))

  split-cut-by : (x : A) (xs ys : List A) (c : A) (t : Bool) → slice_split cuts (xs ++ c ∷ ys) ≡ slice_split cuts xs ++ slice_split cuts ys
      → cond t ([] ∷ slice_split cuts (xs ++ c ∷ ys)) (onto_first x (slice_split cuts (xs ++ c ∷ ys))) ≡ cond t ([] ∷ slice_split cuts xs) (onto_first x (slice_split cuts xs)) ++ slice_split cuts ys
  split-cut-by x xs ys c true e = ap (λ (t : List (List A)). [] ∷ t) e
  split-cut-by x xs ys c false e = ap (onto_first x) e ∙ onto-append x (slice_split cuts xs) (slice_split cuts ys) (split-some xs)

  -- a cut ends the parts before it
  pub split-cut : (xs ys : List A) (c : A) → cuts c ≡ true → slice_split cuts (xs ++ c ∷ ys) ≡ slice_split cuts xs ++ slice_split cuts ys
  split-cut [] ys c is = slice_split-cons_yes cuts c ys is
  split-cut (x ∷ xs) ys c is = split-cut-by x xs ys c (cuts x) (split-cut xs ys c is)
