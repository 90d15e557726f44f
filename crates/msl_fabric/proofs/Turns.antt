-- The exchange in place: row after row, each box before the diagonal with the one across from it.
use Rattle.std.proofs.Common.{◌≡◌, ℕ, ◌+◌, ◌<◌, ◌≤◌, refl, sym, ◌∙◌, subst, subst₂, arith, inl, inr, ◌⊎◌}
use Rattle.std.proofs.lemmas.Bool.{cases_lt}
use Rattle.msl_fabric.specs.Grids.{Grid, IsWhole, box_at, IsExchange}
use Rattle.msl_fabric.proofs.Grids.{turn, turn-whole, turn-there, turn-back, turn-other}

-- the first c boxes of row r and of column r
pub record RowTurned (r c : ℕ) (old new : Grid) : Type 0 where
  pub members : new.n ≡ old.n
  pub whole : IsWhole new
  pub there : (j : ℕ) → j < c → box_at new r j ≡ box_at old j r
  pub back : (j : ℕ) → j < c → box_at new j r ≡ box_at old r j
  pub rest : (a b : ℕ) → a < old.n → b < old.n → (a ≡ r → c ≤ b) → (b ≡ r → c ≤ a) → box_at new a b ≡ box_at old a b

-- the boxes of the first r rows and columns
pub record SquareTurned (r : ℕ) (old new : Grid) : Type 0 where
  pub members : new.n ≡ old.n
  pub whole : IsWhole new
  pub turned : (a b : ℕ) → a < r → b < r → box_at new a b ≡ box_at old b a
  pub rest : (a b : ℕ) → a < old.n → b < old.n → (a < r → r ≤ b) → box_at new a b ≡ box_at old a b

pub row-none : (r : ℕ) (b : Grid) → IsWhole b → RowTurned r 0 b b
row-none r b whole = record {
  members = refl;
  whole = whole;
  there = λ j lt. absurd (omega (arith, lt));
  back = λ j lt. absurd (omega (arith, lt));
  rest = λ a c p q f g. refl;
}

module _ (r c : ℕ) (old new : Grid) (p : r < old.n) (lt : c < r) (h : RowTurned r c old new) where
  row : r < new.n
  row = omega (arith, p, h.members)

  column : c < new.n
  column = omega (arith, p, lt, h.members)

  there : (j : ℕ) → j < c + 1 → box_at (turn new r c) r j ≡ box_at old j r
  there j below = go (cases_lt j c)
    where
      go : (j < c) ⊎ (c ≤ j) → box_at (turn new r c) r j ≡ box_at old j r
      go (inl l) = turn-other new h.whole r c row column r j (omega (arith, l, column)) (λ e f. omega (arith, f, l)) (λ e f. omega (arith, e, lt)) ∙ h.there j l
      go (inr g) =
          let e : c ≡ j = omega (arith, g, below) in
          subst (λ k. box_at (turn new r c) r k ≡ box_at old k r) e (
          turn-there new h.whole r c row column (λ e. omega (arith, e, lt))
          ∙ h.rest c r (omega (arith, p, lt)) p (λ e. absurd (omega (arith, e, lt))) (λ e. omega arith)
          )

  back : (j : ℕ) → j < c + 1 → box_at (turn new r c) j r ≡ box_at old r j
  back j below = go (cases_lt j c)
    where
      go : (j < c) ⊎ (c ≤ j) → box_at (turn new r c) j r ≡ box_at old r j
      go (inl l) = turn-other new h.whole r c row column j r row (λ e f. omega (arith, f, lt)) (λ e f. omega (arith, e, l)) ∙ h.back j l
      go (inr g) =
          let e : c ≡ j = omega (arith, g, below) in
          subst (λ k. box_at (turn new r c) k r ≡ box_at old r k) e (
          turn-back new h.whole r c row column
          ∙ h.rest r c p (omega (arith, p, lt)) (λ e. omega arith) (λ e. absurd (omega (arith, e, lt)))
          )

  rest : (a b : ℕ) → a < old.n → b < old.n → (a ≡ r → c + 1 ≤ b) → (b ≡ r → c + 1 ≤ a) → box_at (turn new r c) a b ≡ box_at old a b
  rest a b low high f g =
      turn-other new h.whole r c row column a b (omega (arith, high, h.members)) (λ e k. omega (arith, f e, k)) (λ e k. omega (arith, g k, e))
      ∙ h.rest a b low high (λ e. omega (arith, f e)) (λ e. omega (arith, g e))

  -- one box more, and the one across from it
  pub row-more : (after : Grid) → after ≡ turn new r c → RowTurned r (c + 1) old after
  row-more after e =
      subst (RowTurned r (c + 1) old) (sym e)
      (record { members = h.members; whole = turn-whole new h.whole r c row column; there = there; back = back; rest = rest })

pub square-none : (b : Grid) → IsWhole b → SquareTurned 0 b b
square-none b whole = record { members = refl; whole = whole; turned = λ a c lt. absurd (omega (arith, lt)); rest = λ a c p q f. refl }

module _ (r : ℕ) (old new after : Grid) (p : r < old.n) (s : SquareTurned r old new) (h : RowTurned r r new after) where
  inner : (a : ℕ) → a < r → a < new.n
  inner a l = omega (arith, l, p, s.members)

  edge : r < new.n
  edge = omega (arith, p, s.members)

  square : (a b : ℕ) → a < r + 1 → b < r + 1 → box_at after a b ≡ box_at old b a
  square a b low high = go (cases_lt a r) (cases_lt b r)
    where
      go : (a < r) ⊎ (r ≤ a) → (b < r) ⊎ (r ≤ b) → box_at after a b ≡ box_at old b a
      go (inl l) (inl m) = h.rest a b (inner a l) (inner b m) (λ e. absurd (omega (arith, e, l))) (λ e. absurd (omega (arith, e, m))) ∙ s.turned a b l m
      go (inl l) (inr m) =
          let e : r ≡ b = omega (arith, m, high) in
          subst (λ k. box_at after a k ≡ box_at old k a) e (h.back a l ∙ s.rest r a p (omega (arith, l, p)) (λ x. absurd (omega (arith, x))))
      go (inr l) (inl m) =
          let e : r ≡ a = omega (arith, l, low) in
          subst (λ k. box_at after k b ≡ box_at old b k) e (h.there b m ∙ s.rest b r (omega (arith, m, p)) p (λ x. omega arith))
      go (inr l) (inr m) =
          let e : r ≡ a = omega (arith, l, low) in
          let f : r ≡ b = omega (arith, m, high) in
          subst₂ (λ x y. box_at after x y ≡ box_at old y x) e f (h.rest r r edge edge (λ x. omega arith) (λ x. omega arith) ∙ s.rest r r p p (λ x. omega arith))

  outside : (a b : ℕ) → a < old.n → b < old.n → (a < r + 1 → r + 1 ≤ b) → box_at after a b ≡ box_at old a b
  outside a b low high f =
      h.rest a b (omega (arith, low, s.members)) (omega (arith, high, s.members)) (λ e. omega (arith, f (omega (arith, e)))) (λ e. beyond e (cases_lt a (r + 1)))
      ∙ s.rest a b low high (λ l. omega (arith, f (omega (arith, l))))
    where
      beyond : b ≡ r → (a < r + 1) ⊎ (r + 1 ≤ a) → r ≤ a
      beyond e (inl l) = let far = f l in absurd (omega (arith, far, e))
      beyond e (inr l) = omega (arith, l)

  -- one row and one column more
  pub square-more : SquareTurned (r + 1) old after
  square-more = record { members = h.members ∙ s.members; whole = h.whole; turned = square; rest = outside }

pub square-all : (n : ℕ) (old new : Grid) → old.n ≤ n → SquareTurned n old new → IsExchange old new
square-all n old new all s = record { members = s.members; turned = λ i j p q. s.turned i j (omega (arith, p, all)) (omega (arith, q, all)) }
