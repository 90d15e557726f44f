use Rattle.msl_data.proofs.Values.{given_in}
use Rattle.msl_data.specs.Tables.{values_of}
use Rattle.msl_data.proofs.table.Table.arguments.Goals as goal

pub argument-requires : goal.argument-requires
argument-requires c = given_in (values_of c.args.self.now) c.args.args.now c.loop-i.i _ c.loop-i-test.true c.requires.given
