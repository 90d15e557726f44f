use Rattle.std.proofs.Common.{◌≡◌, ◌*◌, IfOk}
use Rattle.msl_base.specs.declared.name.NoMemory.{NoMemory}
use Rattle.msl_lists.specs.Whole.{transpose, transposed}
use Rattle.msl_matrix.specs.Grids.{extent_of}
use Rattle.msl_matrix.specs.Matrices.{AreBlocks, IsTurnedBlock, seen}
use Rattle.msl_matrix.proofs.Seen.{led_blocks}
use Rattle.msl_matrix.proofs.Turned.{turned_blocks, turned_seen}
use Rattle.msl_matrix.proofs.turns.turned_blocks.Goals as goal

pub returns-clause-blocks : goal.returns-clause-blocks
returns-clause-blocks c =
    let m = extent_of c.args.shape in
    let blocks = c.args.blocks.now in
    let n : c.blocks-3.result ≡ m.grid_rows * m.grid_cols = c.blocks-3.ensures in
    led_blocks NoMemory (λ j q. IfOk q (λ v. IsTurnedBlock m blocks j v.items)) (IsTurnedBlock m blocks) (λ v. AreBlocks (transposed m) v.items) (m.grid_rows * m.grid_cols) c.in_turn.result (rw n at c.in_turn.ensures.led)
    (λ j v lt h. h)
    (λ w many h. turned_blocks m blocks c.requires w.items many h)

pub returns-clause-seen : goal.returns-clause-seen
returns-clause-seen c =
    let m = extent_of c.args.shape in
    let blocks = c.args.blocks.now in
    let n : c.blocks-3.result ≡ m.grid_rows * m.grid_cols = c.blocks-3.ensures in
    led_blocks NoMemory (λ j q. IfOk q (λ v. IsTurnedBlock m blocks j v.items)) (IsTurnedBlock m blocks) (λ v. seen (transposed m) v.items ≡ transpose m (seen m blocks)) (m.grid_rows * m.grid_cols) c.in_turn.result (rw n at c.in_turn.ensures.led)
    (λ j v lt h. h)
    (λ w many h. turned_seen m blocks c.requires w.items many h)
