use Rattle.std.proofs.Common.{◌≡◌, ◌<◌, ◌≤◌, ◌+◌, ◌-◌, ◌*◌, ◌/◌, ◌%◌, ℕ, ℤ, List, length, slice_index_or, IfOk, sym, subst, ap, ap₂, ◌∙◌, arith}
use Rattle.std.proofs.lemmas.Nat.{div_below}
use Rattle.msl_base.specs.declared.limits.TheConstants.{MOST_NUMBERS}
use Rattle.std.specs.Global.{Vec}
use Rattle.msl_lists.specs.Whole.{Extent}
use Rattle.msl_matrix.specs.Grids.{extent_of, height, width}
use Rattle.msl_matrix.specs.Matrices.{AreBlocks, IsTurned, block}
use Rattle.msl_matrix.proofs.Reading.{block_few, long_block}
use Rattle.msl_matrix.proofs.Seen.{block_read, number_below}
use Rattle.msl_matrix.proofs.turns.turned_block.Goals as goal

col_of : (j p q : ℕ) → 1 ≤ p → j < p * q → j / p < q
col_of j p q some lt = div_below j p q some (omega (arith, lt))

row_of : (j p : ℕ) → 1 ≤ p → j % p < p
row_of j p some = omega arith

-- the block of which block j is made
reads : (m : Extent) (blocks : List (Vec ℤ)) (h : AreBlocks m blocks) (j : ℕ) (v : Vec ℤ) (xs : List ℤ) → j < m.grid_rows * m.grid_cols → xs ≡ v.items
    → v ≡ slice_index_or blocks (j % m.grid_rows * m.grid_cols + j / m.grid_rows) v → xs ≡ block blocks (j % m.grid_rows * m.grid_cols + j / m.grid_rows)
reads m blocks h j v xs lt own is =
    let s = j % m.grid_rows in
    let t = j / m.grid_rows in
    let row = row_of j m.grid_rows h.limits.grid_rows in
    let col = col_of j m.grid_rows m.grid_cols h.limits.grid_rows lt in
    let inside : s * m.grid_cols + t < length blocks = omega (arith, number_below m s t row col, h.many) in
    own ∙ block_read blocks (s * m.grid_cols + t) v inside is

pub turned-requires-clause-long : goal.turned-requires-clause-long
turned-requires-clause-long c =
    let m = extent_of c.args.shape in
    let s = c.args.j % m.grid_rows in
    let t = c.args.j / m.grid_rows in
    let row = row_of c.args.j m.grid_rows c.requires.blocks.limits.grid_rows in
    let col = col_of c.args.j m.grid_rows m.grid_cols c.requires.blocks.limits.grid_rows c.requires.within in
    let high = ap₂ (λ x y. x - y) c.top.ensures c.top-2.ensures in
    let wide = ap₂ (λ x y. x - y) c.left.ensures c.left-2.ensures in
    ap length (reads (extent_of c.args.shape) c.args.blocks.now c.requires.blocks c.args.j c.index-blocks-s.result c.as_slice-block.result.now c.requires.within c.as_slice-block.ensures.value c.index-blocks-s.is) ∙ long_block m c.args.blocks.now c.requires.blocks s t row col ∙ ap₂ (λ x y. x * y) (sym high) (sym wide)

pub turned-requires-clause-few : goal.turned-requires-clause-few
turned-requires-clause-few c =
    let m = extent_of c.args.shape in
    let s = c.args.j % m.grid_rows in
    let t = c.args.j / m.grid_rows in
    let row = row_of c.args.j m.grid_rows c.requires.blocks.limits.grid_rows in
    let col = col_of c.args.j m.grid_rows m.grid_cols c.requires.blocks.limits.grid_rows c.requires.within in
    subst (λ (xs : List ℤ). length xs ≤ MOST_NUMBERS) (sym (reads (extent_of c.args.shape) c.args.blocks.now c.requires.blocks c.args.j c.index-blocks-s.result c.as_slice-block.result.now c.requires.within c.as_slice-block.ensures.value c.index-blocks-s.is)) (block_few m c.args.blocks.now c.requires.blocks s t row col)

pub returns : goal.returns
returns c =
    let high = ap₂ (λ x y. x - y) c.top.ensures c.top-2.ensures in
    let wide = ap₂ (λ x y. x - y) c.left.ensures c.left-2.ensures in
    let m = extent_of c.args.shape in
    let h = height m (c.args.j % m.grid_rows) in
    let w = width m (c.args.j / m.grid_rows) in
    let r = c.turned.result in
    subst (λ (xs : List ℤ). IfOk r (λ v. IsTurned h w xs v.items)) (reads (extent_of c.args.shape) c.args.blocks.now c.requires.blocks c.args.j c.index-blocks-s.result c.as_slice-block.result.now c.requires.within c.as_slice-block.ensures.value c.index-blocks-s.is)
    (subst (λ y. IfOk r (λ v. IsTurned h y c.as_slice-block.result.now v.items)) wide
    (subst (λ x. IfOk r (λ v. IsTurned x (c.left.result - c.left-2.result) c.as_slice-block.result.now v.items)) high c.turned.ensures))
