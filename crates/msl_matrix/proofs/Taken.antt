-- What a function gives at the places of blocks is the operation on whole matrices.
use Rattle.std.proofs.Common.{◌≡◌, ◌*◌, ◌/◌, ◌%◌, ℕ, ℤ, pos, List, [], ◌∷◌, length, Result, Ok, refl, sym, subst, ap, ap₂, ◌∙◌, arith}
use Rattle.std.specs.Global.{Vec}
use Rattle.std.proofs.lemmas.Bool.Decides.{nat_tests}
use Rattle.msl_base.specs.declared.answer.Halt.{Halt}
use Rattle.msl_base.specs.declared.fault.Fault.{Fault}
use Rattle.msl_fun.specs.declared.muscle.Use.{Use}
use Rattle.msl_lists.specs.Whole.{Extent, Function, at, at_stage, each, if_same_length}
use Rattle.msl_lists.specs.WholeLaws.{IsEach}
use Rattle.msl_lists.proofs.WholeEach.{each_as, each_is}
use Rattle.msl_lists.proofs.WholeUnique.{one_each}
use Rattle.msl_local.specs.declared.inputs.Inputs.{Inputs}
use Rattle.msl_local.specs.declared.inputs.Window.{Window}
use Rattle.msl_local.specs.Cells as local
use Rattle.msl_local.specs.Parts.{flat, lengths}
use Rattle.msl_local.specs.Places as places
use Rattle.msl_local.specs.Places.{others, parts_of, Takes}
use Rattle.msl_local.specs.Windows.{cols, rows}
use Rattle.msl_local.proofs.Cells as local_cells
use Rattle.msl_matrix.specs.declared.cells.Cells.{Cells}
use Rattle.msl_matrix.specs.declared.cells.Cells.TheVariants.{Map, MapIndex, Zip, ZipIndex}
use Rattle.msl_matrix.specs.Cells.{first, second, taken, whole, AreInputs, Framed, LiesIn, Suits}
use Rattle.msl_matrix.specs.Grids.{AreWindows}
use Rattle.msl_matrix.specs.Matrices.{AreBlocks, ComesMatrix, Matrix, seen}
use Rattle.msl_matrix.proofs.Placed.{few_places, lie_alike, like_blocks, one_long, place_one, placed, IsPlace}
use Rattle.msl_matrix.proofs.Seen.{long_seen}
use Rattle.msl_matrix.proofs.Windows.{framed}

same_length : (stage : ℕ) (a c : List ℤ) (r : Result (List ℤ) Fault) → length c ≡ length a → if_same_length stage a c r ≡ r
same_length stage a c r h = grind (arith, nat_tests)

whole_is : (u : Function) (stage n : ℕ) (cells : Cells) → length (first cells).elements ≡ n → length (second cells).elements ≡ n → whole u stage cells ≡ each n (λ i. at_stage stage (u (taken cells i)))
whole_is u stage n (Map a) p q = ap (λ k. each k (λ i. at_stage stage (u (taken (Map a) i)))) p
whole_is u stage n (MapIndex a w) p q = ap (λ k. each k (λ i. at_stage stage (u (taken (MapIndex a w) i)))) p
whole_is u stage n (Zip a c) p q = same_length stage a.now.elements c.now.elements _ (q ∙ sym p) ∙ ap (λ k. each k (λ i. at_stage stage (u (taken (Zip a c) i)))) p
whole_is u stage n (ZipIndex a c w) p q = same_length stage a.now.elements c.now.elements _ (q ∙ sym p) ∙ ap (λ k. each k (λ i. at_stage stage (u (taken (ZipIndex a c w) i)))) p

pub each_long : (n : ℕ) (f : ℕ → Result ℤ Fault) (xs : List ℤ) → each n f ≡ Ok xs → length xs ≡ n
each_long n f xs e = (subst (λ (r : Result (List ℤ) Fault). IsEach n f r) e (each_is n f)).0

-- the parts are the blocks of the matrices
record Lie (cells : Cells) (all : Inputs) : Type 0 where
  pub one : LiesIn (parts_of all) (first cells)
  pub two : LiesIn (others all) (second cells)
  pub many : length (places.taken all 0) ≡ length (taken cells 0)
  pub windows : Framed cells → places.Framed all

lie : (cells : Cells) (all : Inputs) → AreInputs cells all → Lie cells all
lie (Map a) all (p, is, one) = subst (Lie (Map a)) (sym is) (record { one = one; two = one; many = refl; windows = λ f. f })
lie (MapIndex a v) all (p, is, one) = subst (Lie (MapIndex a v)) (sym is) (record {
  one = one;
  two = one;
  many = refl;
  windows = λ f. framed a.now.extent p.now one.blocks v.now f;
})
lie (Zip a c) all (p, q, is, one, two) = subst (Lie (Zip a c)) (sym is) (record { one = one; two = two; many = refl; windows = λ f. f })
lie (ZipIndex a c v) all (p, q, is, one, two) = subst (Lie (ZipIndex a c v)) (sym is) (record {
  one = one;
  two = two;
  many = refl;
  windows = λ f. framed a.now.extent p.now one.blocks v.now f;
})

module _ (m : Extent) (blocks : List (Vec ℤ)) (h : AreBlocks m blocks) where
  -- a number of a matrix of the same extent, in its blocks
  at_place : (i p : ℕ) → IsPlace m blocks h i p → (all : List (Vec ℤ)) (d : Matrix) → LiesIn all d → d.extent ≡ m → at d.elements i ≡ at (flat all) p
  at_place i p here all d lies e =
      let other = subst (λ (n : Extent). AreBlocks n all) e lies.blocks in
      ap (λ xs. at xs i) (sym lies.seen)
      ∙ ap (λ (n : Extent). at (seen n all) i) e
      ∙ here.same all (lie_alike m blocks h all other)

  row_col : (i p : ℕ) → IsPlace m blocks h i p → (n : Extent) (w : List Window) → n ≡ m → AreWindows n w → (pos (i / n.cols) ≡ at (rows w) p) × (pos (i % n.cols) ≡ at (cols w) p)
  row_col i p here n w e known =
      let there = here.cell w (subst (λ (k : Extent). AreWindows k w) e known) in
      (ap (λ (k : Extent). pos (i / k.cols)) e ∙ sym there.0, ap (λ (k : Extent). pos (i % k.cols)) e ∙ sym there.1)

  -- a function takes the same at a place of the blocks
  taken_at : (cells : Cells) (all : Inputs) → AreInputs cells all → (first cells).extent ≡ m → (second cells).extent ≡ m → Framed cells → (i p : ℕ) → IsPlace m blocks h i p → taken cells i ≡ places.taken all p
  taken_at (Map a) all (v, is, one) e k known i p here =
      let x = at_place i p here v.now a.now one e in
      ap (λ x. x ∷ []) x ∙ ap (λ y. places.taken y p) (sym is)
  taken_at (MapIndex a w) all (v, is, one) e k known i p here =
      let r = row_col i p here a.now.extent w.now e known in
      let x = at_place i p here v.now a.now one e in
      ap₂ (λ x y. x ∷ y ∷ at a.now.elements i ∷ []) r.0 r.1 ∙ ap (λ x. at (rows w.now) p ∷ at (cols w.now) p ∷ x ∷ []) x ∙ ap (λ y. places.taken y p) (sym is)
  taken_at (Zip a c) all (v, q, is, one, two) e k known i p here =
      let x = at_place i p here v.now a.now one e in
      let y = at_place i p here q.now c.now two k in
      ap₂ (λ x y. x ∷ y ∷ []) x y ∙ ap (λ y. places.taken y p) (sym is)
  taken_at (ZipIndex a c w) all (v, q, is, one, two) e k known i p here =
      let r = row_col i p here a.now.extent w.now e known in
      let x = at_place i p here v.now a.now one e in
      let y = at_place i p here q.now c.now two k in
      ap₂ (λ x y. x ∷ y ∷ at a.now.elements i ∷ at c.now.elements i ∷ []) r.0 r.1
      ∙ ap₂ (λ x y. at (rows w.now) p ∷ at (cols w.now) p ∷ x ∷ y ∷ []) x y
      ∙ ap (λ y. places.taken y p) (sym is)

module _ (u : Use) (cells : Cells) (all : Inputs) (is : AreInputs cells all) (suits : Suits u cells) where
  abbrev m : Extent
  m = (first cells).extent

  lies : Lie cells all
  lies = lie cells all is

  other : AreBlocks m (others all)
  other = subst (λ (n : Extent). AreBlocks n (others all)) suits.alike lies.two.blocks

  alike : lengths (others all) ≡ lengths (parts_of all)
  alike = lie_alike m (parts_of all) lies.one.blocks (others all) other

  pub suits_blocks : places.Suits u all
  suits_blocks = record {
    fits = subst (Takes u) (sym lies.many) suits.fits;
    alike = alike;
    framed = lies.windows suits.framed;
    few = few_places m (parts_of all) lies.one.blocks;
  }

  same_taken : (i p : ℕ) → IsPlace m (parts_of all) lies.one.blocks i p → taken cells i ≡ places.taken all p
  same_taken i p here = taken_at m (parts_of all) lies.one.blocks cells all is refl suits.alike suits.framed i p here

  module _ (f : Function) (stage : ℕ) where
    abbrev gives : List ℤ → Result ℤ Fault
    gives xs = at_stage stage (f xs)

    in_rows : whole f stage cells ≡ each (m.rows * m.cols) (λ i. gives (taken cells i))
    in_rows =
        whole_is f stage (m.rows * m.cols) cells
        (ap length (sym lies.one.seen) ∙ long_seen m lies.one.blocks.limits (parts_of all))
        (ap length (sym lies.two.seen) ∙ ap (λ (n : Extent). length (seen n (others all))) suits.alike ∙ long_seen m lies.one.blocks.limits (others all))

    in_blocks : local.whole f stage all ≡ each (length (flat (parts_of all))) (λ p. gives (places.taken all p))
    in_blocks = local_cells.whole_is f stage all alike

    pub came : (out : List (Vec ℤ)) → local.whole f stage all ≡ Ok (flat out) → lengths out ≡ lengths (parts_of all) → whole f stage cells ≡ Ok (seen m out)
    came out known e =
        in_rows
        ∙ placed m (parts_of all) lies.one.blocks (λ i. gives (taken cells i)) (λ p. gives (places.taken all p)) out (λ i p lt here. ap gives (same_taken i p here)) (sym in_blocks ∙ known) e

    pub came_blocks : (out : List (Vec ℤ)) → lengths out ≡ lengths (parts_of all) → AreBlocks m out
    came_blocks out e = like_blocks m (parts_of all) lies.one.blocks out e

    pub came_one : m.grid_rows ≡ 1 → m.grid_cols ≡ 1 → whole f stage cells ≡ local.whole f stage all
    came_one one_row one_col =
        let n = m.rows * m.cols in
        let row = λ (i : ℕ). gives (taken cells i) in
        let block = λ (p : ℕ). gives (places.taken all p) in
        in_rows
        ∙ one_each n row (each n row) (each n block) (each_is n row) (each_as n block row (λ i lt. ap gives (same_taken i i (place_one m (parts_of all) lies.one.blocks one_row one_col i lt))))
        ∙ ap (λ k. each k block) (sym (one_long m (parts_of all) lies.one.blocks one_row one_col))
        ∙ sym in_blocks

-- the same for the same matrices
pub comes_same : (m n : Extent) (want have : Result (List ℤ) Fault) (r : Result Matrix Halt) → n ≡ m → have ≡ want → ComesMatrix n have r → ComesMatrix m want r
comes_same m n want have r e is comes = subst (λ (k : Extent). ComesMatrix k want r) e (subst (λ (w : Result (List ℤ) Fault). ComesMatrix n w r) is comes)
