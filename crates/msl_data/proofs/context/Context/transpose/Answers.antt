use Rattle.msl_data.proofs.Values.{matrix_at}
use Rattle.msl_data.proofs.context.Context.transpose.Goals as goal

pub matrix-matrix-requires : goal.matrix-matrix-requires
matrix-matrix-requires g c = matrix_at c.requires.program c.args.self.now.table.now c.requires.shaped c.args.k c.requires.fits
