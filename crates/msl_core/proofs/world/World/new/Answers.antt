use Rattle.msl_core.proofs.Applying.{sound_alone}
use Rattle.msl_core.proofs.world.World.new.Goals as goal

pub invariant_of-result : goal.invariant_of-result
invariant_of-result c = sound_alone c.args.n c.args.start c.new-places.result.items c.push.new.self.items c.in_ok-group.group c.requires.start c.in_ok-push.ensures.items c.new-places.ensures.items c.in_ok-group.ensures

pub returns-clause-sound : goal.returns-clause-sound
returns-clause-sound c = sound_alone c.args.n c.args.start c.new-places.result.items c.push.new.self.items c.in_ok-group.group c.requires.start c.in_ok-push.ensures.items c.new-places.ensures.items c.in_ok-group.ensures
