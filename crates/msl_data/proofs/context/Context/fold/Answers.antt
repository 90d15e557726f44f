use Rattle.msl_data.proofs.Values.{container_at}
use Rattle.msl_data.proofs.context.Context.fold.Goals as goal

pub container-requires : goal.container-requires
container-requires g c = container_at c.requires.program c.args.self.now.table.now c.requires.shaped c.args.k c.requires.fits.1
