use Rattle.std.proofs.Common.{◌≡◌, ◌≤◌, ◌+◌, ◌-◌, ◌*◌, ◌++◌, length, take, drop, sym, subst, ap, ◌∙◌, arith}
use Rattle.std.proofs.lemmas.Nat.{mul-le}
use Rattle.msl_matrix.specs.Matrices.{IsCut}
use Rattle.msl_matrix.proofs.Cuts.{cut_more}
use Rattle.msl_matrix.proofs.blocks.cut.Goals as goal

pub loop-r-preserved : goal.loop-r-preserved
loop-r-preserved c =
    let xs = c.args.xs.now in
    let cols = c.args.cols in
    let above = c.args.window.above in
    let before = c.args.window.before in
    let behind = c.args.window.behind in
    let r = c.loop-r.r in
    let ys = c.loop-r.block.items in
    let up : above ≤ r = omega (arith, c.loop-r.auto.r) in
    let wide : r * cols + behind - (r * cols + before) ≡ behind - before = omega arith in
    let rows = mul-le (r + 1) cols c.args.window.below cols (omega (arith, c.loop-r-test.true)) (omega arith) in
    let few : r * cols + before + (behind - before) ≤ length xs = omega (arith, rows, c.requires.order, c.requires.cols, c.requires.within) in
    let read = c.in_ok-extend_from_slice.ensures.items ∙ ap (λ k. ys ++ take k (drop (r * cols + before) xs)) wide in
    subst (IsCut cols xs above (r + 1) before behind) (sym read) (cut_more cols xs above r before behind ys c.loop-r.invariant up few)
