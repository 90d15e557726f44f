use Rattle.msl_data.proofs.Values.{arguments_at}
use Rattle.msl_data.proofs.context.Context.used.Goals as goal

pub arguments-extra-requires-clause-given : goal.arguments-extra-requires-clause-given
arguments-extra-requires-clause-given c = rw c.as_slice-args.ensures (arguments_at c.requires.program c.args.self.now.table.now c.requires.shaped c.args.u.now.args c.requires.fits.args)
