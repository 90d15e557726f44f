-- Tests of the items of a list, as far as a loop over them has come.
use Rattle.std.proofs.Common.{◌≡◌, ℕ, ◌+◌, ◌<◌, List, ◌∷◌, drop, get_or, Bool, true, false, ap, sym, ◌∙◌, add-one, length, drop-cons, ◌||◌}
use Rattle.std.specs.List.{list_any}

module _ {X : Type 0} (p : X → Bool) (xs : List X) (i : ℕ) (d : X) (lt : i < length xs) where
  list_any-drop : list_any p (drop i xs) ≡ (p (get_or xs i d) || list_any p (drop (i + 1) xs))
  list_any-drop = ap (list_any p) (drop-cons xs i d lt ∙ ap (λ (k : ℕ). get_or xs i d ∷ drop k xs) (sym (add-one i)))

  -- the item at this place passes
  pub found_at : list_any p (drop i xs) ≡ list_any p xs → p (get_or xs i d) ≡ true → true ≡ list_any p xs
  found_at h passes = ap (λ (b : Bool). b || list_any p (drop (i + 1) xs)) (sym passes) ∙ sym list_any-drop ∙ h

  -- it does not
  pub not_at : list_any p (drop i xs) ≡ list_any p xs → p (get_or xs i d) ≡ false → list_any p (drop (i + 1) xs) ≡ list_any p xs
  not_at h fails = ap (λ (b : Bool). b || list_any p (drop (i + 1) xs)) (sym fails) ∙ sym list_any-drop ∙ h
