-- What an exchange gives is one grid, and leads back.
use Rattle.std.proofs.Common.{◌≡◌, ℕ, zero, suc, ◌*◌, ◌/◌, ◌%◌, ◌<◌, [], ◌∷◌, pos, length, get_or, refl, sym, ap, ◌∙◌, arith}
use Rattle.std.proofs.lemmas.List.{ext_get_or}
use Rattle.std.proofs.lemmas.Nat.{div_below, mod_below}
use Rattle.msl_fabric.specs.Grids.{Grid, grid, IsWhole, box_at, IsExchange}

pub back : (out got : Grid) → IsExchange out got → IsExchange got out
back out got h = record { members = sym h.members; turned = λ i j p q. sym (h.turned j i (omega (arith, q, h.members)) (omega (arith, p, h.members))) }

-- the box at a place of the list
placed : (b : Grid) (k : ℕ) → 0 < b.n → get_or b.boxes k [] ≡ box_at b (k / b.n) (k % b.n)
placed b k some = ap (λ (m : ℕ). get_or b.boxes m []) (omega arith)

module _ (out got other : Grid) (w : IsWhole got) (v : IsWhole other) (h : IsExchange out got) (g : IsExchange out other) where
  side : got.n ≡ other.n
  side = h.members ∙ sym g.members

  same-box : (i j : ℕ) → i < got.n → j < got.n → box_at got i j ≡ box_at other i j
  same-box i j p q =
      let low : i < out.n = omega (arith, p, h.members) in
      let high : j < out.n = omega (arith, q, h.members) in
      h.turned i j low high ∙ sym (g.turned i j low high)

  same-place : (k : ℕ) → k < length got.boxes → get_or got.boxes k [] ≡ get_or other.boxes k []
  same-place k lt = go got.n refl
    where
      go : (n : ℕ) → got.n ≡ n → get_or got.boxes k [] ≡ get_or other.boxes k []
      go zero e = let none : got.n * got.n ≡ 0 = ap (λ (m : ℕ). m * m) e in absurd (omega (arith, lt, w, none))
      go (suc n) e =
          let some : 0 < got.n = omega (arith, e) in
          let within : k < got.n * got.n = omega (arith, lt, w) in
          placed got k some
          ∙ same-box (k / got.n) (k % got.n) (div_below k got.n got.n some within) (mod_below k got.n some)
          ∙ ap (λ (m : ℕ). box_at other (k / m) (k % m)) side
          ∙ sym (placed other k (omega (arith, some, side)))

  pub one-answer : got ≡ other
  one-answer =
      let long : length got.boxes ≡ length other.boxes = w ∙ ap (λ (m : ℕ). m * m) side ∙ sym v in
      ap (λ (n : ℕ). grid n got.boxes) side ∙ ap (grid other.n) (ext_get_or [] got.boxes other.boxes long same-place)

abbrev out : Grid
out = grid 2 ((pos 1 ∷ []) ∷ (pos 2 ∷ []) ∷ (pos 3 ∷ []) ∷ [] ∷ [])

abbrev got : Grid
got = grid 2 ((pos 1 ∷ []) ∷ (pos 3 ∷ []) ∷ (pos 2 ∷ []) ∷ [] ∷ [])

turned : (i j : ℕ) → i < 2 → j < 2 → box_at got i j ≡ box_at out j i
turned zero zero p q = refl
turned zero (suc zero) p q = refl
turned zero (suc (suc j)) p q = absurd (omega (arith, q))
turned (suc zero) zero p q = refl
turned (suc zero) (suc zero) p q = refl
turned (suc zero) (suc (suc j)) p q = absurd (omega (arith, q))
turned (suc (suc i)) j p q = absurd (omega (arith, p))

-- four boxes
pub two : IsExchange out got
two = record { members = refl; turned = turned }
