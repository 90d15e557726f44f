-- Where numbers go that are put to the places of their targets.
use Rattle.std.proofs.Common.{◌≡◌, ◌≢◌, ◌<◌, ◌≤◌, ◌+◌, ◌-◌, ℕ, ℤ, pos, true, false, List, [], ◌∷◌, length, set, slice_index_or, Result, Ok, Err, if◌then◌else◌, refl, sym, ap, ◌∙◌, arith, inl, inr, ◌⊎◌}
use Rattle.std.specs.Global.{Vec}
use Rattle.std.proofs.lemmas.Bool.{cases_lt}
use Rattle.std.proofs.lemmas.List.{get_or-set_same, get_or-set_other, length-set}
use Rattle.msl_base.specs.declared.fault.Fault.{Fault}
use Rattle.msl_base.specs.declared.fault.Fault.TheVariants.{NotPermutation}
use Rattle.msl_lists.specs.Whole.{◌>>=◌, Function, at, at_stage, each, is_bijection, targets_of}
use Rattle.msl_local.specs.Parts.{flat, lengths, start}
use Rattle.msl_local.proofs.Lists.{size, size_at, at_part, place_within}
use Rattle.msl_array.specs.Moves.{ArePlaces, ArePut}

-- ---- targets that are tested

module _ (u : Function) (stage n : ℕ) (ts : List ℤ) (given : each n (λ i. at_stage stage (u (pos i ∷ []))) ≡ Ok ts) where
  pub accepted : is_bijection n ts ≡ true → targets_of u stage n ≡ Ok ts
  accepted e = ap (λ (r : Result (List ℤ) Fault). r >>= λ targets. if is_bijection n targets then Ok targets else Err (NotPermutation stage)) given ∙ (rw e refl)

  pub rejected : is_bijection n ts ≡ false → targets_of u stage n ≡ Err (NotPermutation stage)
  rejected e = ap (λ (r : Result (List ℤ) Fault). r >>= λ targets. if is_bijection n targets then Ok targets else Err (NotPermutation stage)) given ∙ (rw e refl)

-- ---- one number more

pub put_none : (before targets xs : List ℤ) → ArePut before targets xs 0 before
put_none before targets xs = record { long = refl; lands = λ i to lt e. absurd (omega (arith, lt)); others = λ to none. refl }

module _ (before targets xs all : List ℤ) (i to : ℕ) (y : ℤ) (places : ArePlaces (length before) targets) (inside : i < length targets) (is : at targets i ≡ pos to) (read : y ≡ at xs i) (h : ArePut before targets xs i all) where
  pub to_inside : to < length all
  to_inside =
      let w = places.within i inside in
      let named : pos w.0 ≡ pos to = sym w.2 ∙ is in
      let same : w.0 ≡ to = cc in
      omega (arith, w.1, same, h.long)

  pub put_more : ArePut before targets xs (i + 1) (set all to y)
  put_more = record {
    long = length-set all to y ∙ h.long;
    lands = λ k p lt e. lands k p lt e (cases_lt k i);
    others = λ p none.
        let other : p ≢ to = λ same. none i (omega arith) (is ∙ ap pos (sym same)) in
        get_or-set_other all to p y (pos 0) other ∙ h.others p (λ k lt. none k (omega (arith, lt)));
  }
    where
      lands : (k p : ℕ) → k < i + 1 → at targets k ≡ pos p → (k < i) ⊎ (i ≤ k) → at (set all to y) p ≡ at xs k
      lands k p lt e (inl less) =
          let other : p ≢ to = λ same. let one = places.apart k i (omega (arith, less, inside)) inside (e ∙ ap pos same ∙ sym is) in absurd (omega (arith, one, less)) in
          get_or-set_other all to p y (pos 0) other ∙ h.lands k p less e
      lands k p lt e (inr more) =
          let last : k ≡ i = omega (arith, lt, more) in
          let named : pos p ≡ pos to = sym e ∙ ap (at targets) last ∙ is in
          let same : p ≡ to = cc in
          ap (at (set all to y)) same ∙ get_or-set_same all to y (pos 0) to_inside ∙ read ∙ ap (at xs) (sym last)

-- ---- one part more

pub part_places : (n : ℕ) (parts : List (Vec ℤ)) (m : ℕ) (v : Vec ℤ) → m < length parts → v ≡ slice_index_or parts m v → ArePlaces n (flat parts) → ArePlaces n v.items
part_places n parts m v lt is h = record {
  within = λ k inside. let w = h.within (start parts m + k) (below k inside) in (w.0, w.1, sym (stands k inside) ∙ w.2);
  apart = λ i j p q e. let same = h.apart (start parts m + i) (start parts m + j) (below i p) (below j q) (stands i p ∙ e ∙ sym (stands j q)) in omega (arith, same);
}
  where
    long : slice_index_or (lengths parts) m 0 ≡ length v.items
    long = size_at parts m v lt ∙ ap size (sym is)

    below : (k : ℕ) → k < length v.items → start parts m + k < length (flat parts)
    below k inside = place_within parts m k lt (omega (arith, inside, long))

    stands : (k : ℕ) → k < length v.items → at (flat parts) (start parts m + k) ≡ at v.items k
    stands k inside = at_part parts m k v lt (omega (arith, inside, ap size is)) ∙ ap (λ (w : Vec ℤ). at w.items k) (sym is)

module _ (before targets xs middle v w after : List ℤ) (s : ℕ) (places : ArePlaces (length before) targets) (within : s + length w ≤ length targets)
    (theirs : (k : ℕ) → k < length w → at targets (s + k) ≡ at v k) (numbers : (k : ℕ) → k < length w → at xs (s + k) ≡ at w k) (h : ArePut before targets xs s middle) (g : ArePut middle v w (length w) after) where
  pub put_both : ArePut before targets xs (s + length w) after
  put_both = record {
    long = g.long ∙ h.long;
    lands = λ i to lt e. lands i to lt e (cases_lt i s);
    others = λ to none. g.others to (λ k lt e. none (s + k) (omega (arith, lt)) (theirs k lt ∙ e)) ∙ h.others to (λ i lt. none i (omega (arith, lt)));
  }
    where
      lands : (i to : ℕ) → i < s + length w → at targets i ≡ pos to → (i < s) ⊎ (s ≤ i) → at after to ≡ at xs i
      lands i to lt e (inl less) =
          g.others to (λ k inside o.
          let one = places.apart i (s + k) (omega (arith, lt, within)) (omega (arith, inside, within)) (e ∙ sym (theirs k inside ∙ o)) in
          absurd (omega (arith, one, less)))
          ∙ h.lands i to less e
      lands i to lt e (inr more) =
          let k = i - s in
          let split : i ≡ s + k = omega (arith, more) in
          let inside : k < length w = omega (arith, lt, more) in
          g.lands k to inside (sym (theirs k inside) ∙ ap (at targets) (sym split) ∙ e) ∙ sym (numbers k inside) ∙ ap (at xs) (sym split)
