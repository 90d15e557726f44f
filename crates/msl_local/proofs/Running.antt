-- Outcomes part by part: one part more, and a part that stops.
use Rattle.std.proofs.Common.{◌≡◌, ◌<◌, ◌≤◌, ◌+◌, ◌-◌, ℕ, ℤ, List, [], ◌∷◌, ◌++◌, length, slice_index_or, Result, Ok, Err, refl, sym, ap, ap₂, subst, ◌∙◌, arith}
use Rattle.std.specs.Global.{Vec}
use Rattle.std.proofs.lemmas.List.{map-append}
use Rattle.msl_base.specs.declared.fault.Fault.{Fault}
use Rattle.msl_base.specs.declared.answer.Halt.{Halt}
use Rattle.msl_base.specs.declared.answer.Halt.TheVariants as halt
use Rattle.msl_lists.proofs.WholeParts.{each_values}
use Rattle.msl_local.specs.Outcomes.{part, Comes, Stops}
use Rattle.msl_local.specs.Parts.{flat, lengths, start, between}
use Rattle.msl_local.proofs.Lists.{size, size_at, between_more, flat_append, flat_one, start_next, start_rises}
use Rattle.msl_local.proofs.Outcomes.{part_ok, part_first, part_later}

module _ (f : ℕ → Result ℤ Fault) (a : List (Vec ℤ)) where
  -- the outcomes of part m
  abbrev pub mine : ℕ → Result (List ℤ) Fault
  mine m = part f (start a m) (slice_index_or (lengths a) m 0)

  -- those from part `from` up to this one
  abbrev pub run : ℕ → ℕ → Result (List ℤ) Fault
  run from to = part f (start a from) (start a to - start a from)

  -- an answer at part m, which begins at `first`
  pub is_mine : (m first : ℕ) (r : Result (Vec ℤ) Halt) (y : Vec ℤ) → r ≡ Ok y → first ≡ start a m → Comes (part f first (slice_index_or (lengths a) m 0)) r → mine m ≡ Ok y.items
  is_mine m first r y is begins h =
      let g : part f first (slice_index_or (lengths a) m 0) ≡ Ok y.items = subst (λ q. Comes (part f first (slice_index_or (lengths a) m 0)) q) is h in
      ap (λ s. part f s (slice_index_or (lengths a) m 0)) (sym begins) ∙ g

  pub stops_mine : (m first : ℕ) (r : Result (Vec ℤ) Halt) (h : Halt) → r ≡ Err h → first ≡ start a m → Comes (part f first (slice_index_or (lengths a) m 0)) r → Stops (mine m) h
  stops_mine m first r h is begins g =
      let k : Stops (part f first (slice_index_or (lengths a) m 0)) h = subst (λ q. Comes (part f first (slice_index_or (lengths a) m 0)) q) is g in
      subst (λ s. Stops (part f s (slice_index_or (lengths a) m 0)) h) begins k

  pub part_long : (m : ℕ) (y : Vec ℤ) → mine m ≡ Ok y.items → size y ≡ slice_index_or (lengths a) m 0
  part_long m y h = (each_values (slice_index_or (lengths a) m 0) (λ i. f (start a m + i)) y.items h).0

  next : (m : ℕ) (y : Vec ℤ) → m < length a → start a (m + 1) ≡ start a m + slice_index_or (lengths a) m 0
  next m y lt = start_next a m y lt ∙ ap (λ k. start a m + k) (sym (size_at a m y lt))

  pub start_more : (m : ℕ) (y : Vec ℤ) → m < length a → mine m ≡ Ok y.items → start a (m + 1) ≡ start a m + size y
  start_more m y lt h = next m y lt ∙ ap (λ k. start a m + k) (sym (part_long m y h))

  pub run_none : (from : ℕ) → run from from ≡ Ok []
  run_none from = let e : start a from - start a from ≡ 0 = omega arith in subst (λ n. part f (start a from) n ≡ Ok []) (sym e) refl

  pub run_more : (from m : ℕ) (out : List (Vec ℤ)) (y : Vec ℤ) → from ≤ m → m < length a → run from m ≡ Ok (flat out) → mine m ≡ Ok y.items → run from (m + 1) ≡ Ok (flat (out ++ y ∷ []))
  run_more from m out y order lt so_far h =
      let up = start_rises a from m order in
      part_ok f (start a from) (start a m - start a from) (slice_index_or (lengths a) m 0) (start a m) (start a (m + 1) - start a from) (flat out) y.items
      (omega (arith, up)) (omega (arith, up, next m y lt)) so_far h
      ∙ ap (λ (xs : List ℤ). Ok xs) (ap (λ (xs : List ℤ). flat out ++ xs) (sym (flat_one y)) ∙ sym (flat_append out (y ∷ [])))

  pub alike_more : (from m : ℕ) (out : List (Vec ℤ)) (y : Vec ℤ) → from ≤ m → m < length a → lengths out ≡ lengths (between a from m) → mine m ≡ Ok y.items → lengths (out ++ y ∷ []) ≡ lengths (between a from (m + 1))
  alike_more from m out y order lt alike h =
      map-append size out (y ∷ [])
      ∙ ap₂ (λ (xs : List ℕ) (k : ℕ). xs ++ k ∷ []) alike (part_long m y h ∙ size_at a m y lt)
      ∙ sym (map-append size (between a from m) (slice_index_or a m y ∷ []))
      ∙ ap lengths (sym (between_more a from m y order lt))

  -- what stops a part stops all that begins before it and doesn't stop there
  pub run_stops : (from m to : ℕ) (out : List ℤ) (h : Halt) → from ≤ m → m < to → to ≤ length a → run from m ≡ Ok out → Stops (mine m) h → Stops (run from to) h
  run_stops from m to out halt.NoMemory order lt within so_far stops = tt
  run_stops from m to out (halt.Fault e) order lt within so_far stops = go a refl
    where
      go : (b : List (Vec ℤ)) → b ≡ a → run from to ≡ Err e
      go [] is = absurd (omega (arith, lt, within, ap length is))
      go (v ∷ vs) is =
          let up = start_rises a from m order in
          let on = start_rises a (m + 1) to (omega (arith, lt)) in
          let n = next m v (omega (arith, lt, within)) in
          part_later f (start a from) (start a m - start a from) (start a to - start a m) (start a m) (start a to - start a from) out e
          (omega (arith, up)) (omega (arith, up, on, n)) so_far
          (part_first f (start a m) (slice_index_or (lengths a) m 0) (start a to - start a (m + 1)) (start a to - start a m) e (omega (arith, on, n)) stops)
