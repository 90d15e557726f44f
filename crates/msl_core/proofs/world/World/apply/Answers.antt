use Rattle.msl_core.proofs.Worlds.{over_is_quiet}
use Rattle.msl_core.proofs.Applying.{stays_applied}
use Rattle.msl_core.proofs.world.World.apply.Goals as goal

pub returns-clause-quiet : goal.returns-clause-quiet
returns-clause-quiet c = over_is_quiet c.happen-outcome.new.self c.facts-2.ensures

pub returns-clause-over : goal.returns-clause-over
returns-clause-over c = stays_applied c.args.self.now c.happen-outcome.new.self c.args.e c.answer.result c.facts.ensures (c.answer.ensures c.args.self.now c.happen-outcome.new.self c.happen-outcome.ensures)
