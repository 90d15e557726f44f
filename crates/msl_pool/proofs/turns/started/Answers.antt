use Rattle.msl_pool.proofs.Keeping.{starts-first, starts-push}
use Rattle.msl_pool.proofs.turns.started.Goals as goal

pub loop-init : goal.loop-init
loop-init g c =
    starts-first c.args.root c.in_ok-at_root.field-0 c.new-ring.result.items c.push_back.new.self.items c.new-ring.ensures.items c.in_ok-push_back.ensures.items c.in_ok-at_root.ensures

pub loop-preserved : goal.loop-preserved
loop-preserved g c =
    starts-push c.args.root c.loop.ring.items c.push_back-in-loop.new.self.items c.idle.result c.loop.invariant c.idle.ensures c.in_ok-push_back-2.ensures.items
