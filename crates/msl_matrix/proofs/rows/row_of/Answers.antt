use Rattle.std.proofs.Common.{◌≡◌, ◌<◌, ◌≤◌, ◌+◌, ◌-◌, ◌*◌, ℕ, ℤ, List, length, take, drop, ap, ap₂, ◌∙◌, arith}
use Rattle.msl_matrix.specs.Grids.{extent_of, width}
use Rattle.msl_matrix.specs.Matrices.{block}
use Rattle.msl_matrix.proofs.Reading.{block_few, piece, row_within}
use Rattle.msl_matrix.proofs.Seen.{block_read, number_below}
use Rattle.msl_matrix.proofs.rows.row_of.Goals as goal

fits : (a w v n : ℕ) (xs ys : List ℤ) → w ≡ v → xs ≡ ys → a * v + v ≤ length ys → length ys ≤ n → (a * w + w ≤ length xs) × (a * w ≤ n)
fits a w v n xs ys p q few most = rw (p, q) (few, omega (arith, few, most))

pub offset_bounds-block-a : goal.offset_bounds-block-a
offset_bounds-block-a c =
    let m = extent_of c.args.shape in
    let blocks = c.args.blocks.now in
    let j = c.args.s * c.args.shape.grid_cols + c.args.t in
    let lt : j < length blocks = omega (arith, number_below m c.args.s c.args.t c.requires.row c.requires.col, c.requires.blocks.many) in
    let w : c.left.result - c.left-2.result ≡ width m c.args.t = ap₂ (λ x y. x - y) c.left.ensures c.left-2.ensures in
    let b : c.as_slice-block.result.now ≡ block blocks j = c.as_slice-block.ensures.value ∙ block_read blocks j c.index-blocks-s.result lt c.index-blocks-s.is in
    let e = fits c.args.a (c.left.result - c.left-2.result) (width m c.args.t) 1048576 c.as_slice-block.result.now (block blocks j) w b
    (row_within m blocks c.requires.blocks c.args.s c.args.t c.args.a c.requires.row c.requires.col c.requires.inside)
    (block_few m blocks c.requires.blocks c.args.s c.args.t c.requires.row c.requires.col) in
    omega (arith, e.1)

pub slice_bounds-result-end : goal.slice_bounds-result-end
slice_bounds-result-end c =
    let m = extent_of c.args.shape in
    let blocks = c.args.blocks.now in
    let j = c.args.s * c.args.shape.grid_cols + c.args.t in
    let lt : j < length blocks = omega (arith, number_below m c.args.s c.args.t c.requires.row c.requires.col, c.requires.blocks.many) in
    let w : c.left.result - c.left-2.result ≡ width m c.args.t = ap₂ (λ x y. x - y) c.left.ensures c.left-2.ensures in
    let b : c.as_slice-block.result.now ≡ block blocks j = c.as_slice-block.ensures.value ∙ block_read blocks j c.index-blocks-s.result lt c.index-blocks-s.is in
    let e = fits c.args.a (c.left.result - c.left-2.result) (width m c.args.t) 1048576 c.as_slice-block.result.now (block blocks j) w b
    (row_within m blocks c.requires.blocks c.args.s c.args.t c.args.a c.requires.row c.requires.col c.requires.inside)
    (block_few m blocks c.requires.blocks c.args.s c.args.t c.requires.row c.requires.col) in
    omega (arith, e.0)

pub returns : goal.returns
returns c =
    let m = extent_of c.args.shape in
    let blocks = c.args.blocks.now in
    let a = c.args.a in
    let j = c.args.s * c.args.shape.grid_cols + c.args.t in
    let lt : j < length blocks = omega (arith, number_below m c.args.s c.args.t c.requires.row c.requires.col, c.requires.blocks.many) in
    let v = c.left.result - c.left-2.result in
    let w : v ≡ width m c.args.t = ap₂ (λ x y. x - y) c.left.ensures c.left-2.ensures in
    let b : c.as_slice-block.result.now ≡ block blocks j = c.as_slice-block.ensures.value ∙ block_read blocks j c.index-blocks-s.result lt c.index-blocks-s.is in
    let wide : a * v + v - a * v ≡ v = omega arith in
    ap (λ k. take k (drop (a * v) c.as_slice-block.result.now)) wide
    ∙ ap (λ k. take k (drop (a * k) c.as_slice-block.result.now)) w
    ∙ ap (λ (xs : List ℤ). take (width m c.args.t) (drop (a * width m c.args.t) xs)) b
    ∙ piece m blocks c.requires.blocks c.args.s c.args.t a c.requires.row c.requires.col c.requires.inside
