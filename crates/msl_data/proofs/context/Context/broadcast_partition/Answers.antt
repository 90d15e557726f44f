use Rattle.std.proofs.Common.{◌<◌, sym, subst}
use Rattle.msl_program.specs.declared.shape.Need.TheVariants as need
use Rattle.msl_data.proofs.Values.{array_at, blocks_in_line}
use Rattle.msl_data.proofs.context.Context.broadcast_partition.Goals as goal

pub array-array-requires : goal.array-array-requires
array-array-requires g c = array_at c.requires.program c.args.self.now.table.now c.requires.shaped c.args.k c.requires.fits.0

pub broadcast_partition-requires : goal.broadcast_partition-requires
broadcast_partition-requires g c =
    let d = c.array-array.result.now in
    subst (λ b. c.args.j < b) (sym (blocks_in_line c.requires.program c.args.self.now.table.now c.requires.shaped need.Array c.args.k d.blocks d.elements c.requires.fits.0 c.array-array.ensures)) c.requires.fits.1
