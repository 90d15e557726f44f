use Rattle.std.proofs.Common.{◌∙◌}
use Rattle.msl_base.proofs.Names.{place_of_name}
use Rattle.msl_base.proofs.name.position_named.Goals as goal

pub returns : goal.returns
returns g c = c.first_named.ensures ∙ place_of_name g.T.Named.called c.args.items.now c.args.name.now
