use Rattle.std.proofs.Common.{◌≡◌, ◌*◌, IfOk}
use Rattle.msl_base.specs.declared.name.NoMemory.{NoMemory}
use Rattle.msl_matrix.specs.Grids.{extent_of}
use Rattle.msl_matrix.specs.Matrices.{AreBlocks, IsBlock, seen}
use Rattle.msl_matrix.proofs.Seen.{led_blocks, cut_blocks, cut_is}
use Rattle.msl_matrix.proofs.blocks.laid.Goals as goal

pub returns-clause-blocks : goal.returns-clause-blocks
returns-clause-blocks c =
    let m = extent_of c.args.shape in
    let xs = c.args.xs.now in
    let n : c.blocks-3.result ≡ m.grid_rows * m.grid_cols = c.blocks-3.ensures in
    led_blocks NoMemory (λ j q. IfOk q (λ v. IsBlock m xs j v.items)) (IsBlock m xs) (λ v. AreBlocks m v.items) (m.grid_rows * m.grid_cols) c.in_turn.result (rw n at c.in_turn.ensures.led)
    (λ j v lt h. h)
    (λ w many h. cut_blocks m c.requires.limits w.items xs many h)

pub returns-clause-seen : goal.returns-clause-seen
returns-clause-seen c =
    let m = extent_of c.args.shape in
    let xs = c.args.xs.now in
    let n : c.blocks-3.result ≡ m.grid_rows * m.grid_cols = c.blocks-3.ensures in
    led_blocks NoMemory (λ j q. IfOk q (λ v. IsBlock m xs j v.items)) (IsBlock m xs) (λ v. seen m v.items ≡ xs) (m.grid_rows * m.grid_cols) c.in_turn.result (rw n at c.in_turn.ensures.led)
    (λ j v lt h. h)
    (λ w many h. cut_is m c.requires.limits w.items xs c.requires.long h)
