use Rattle.std.proofs.Common.{arith, ap, sym, ◌∙◌, ◌≡◌, ◌<◌, subst, length}
use Rattle.msl_core.specs.declared.event.Event.TheVariants as event
use Rattle.msl_core.specs.declared.place.Place.{Place}
use Rattle.msl_core.specs.Groups.{Holds}
use Rattle.msl_core.specs.Worlds.{Places, Sound, happened}
use Rattle.msl_core.proofs.Worlds.{sound_lend}
use Rattle.msl_core.proofs.Applying.{place_is, lend_is}
use Rattle.msl_core.proofs.world.World.lend.Goals as goal

pub invariant_of-self-2 : goal.invariant_of-self-2
invariant_of-self-2 c =
    let w = c.self.inside.places in let i = c.args.group in let inside : i < length w.items = omega (arith, c.if-i-len.false, c.len.ensures, w.ok.0) in
    let holds = subst (λ (x : Place). Holds x.group c.args.node) (place_is w.items i c.index.result.now c.index.ensures inside) (c.holds.ensures.0 c.if-not-holds.false) in
    let v = c.reserve.new.self.items in let same : v ≡ w.items = c.in_ok-reserve.ensures.items in
    subst Sound (sym (c.push_reserved.ensures.items ∙ lend_is v i c.args.node c.args.size c.in_ok-slot.slot c.index_mut.result.now c.lend.new.self c.in_ok-inner.inner
    (place_is v i c.index_mut.result.now c.index_mut.ensures.value (let n = ap length same in omega arith)) c.in_ok-slot.ensures.ok c.in_ok-inner.ensures c.in_ok-slot.ensures.slot))
    (subst (λ (l : Places). Sound (happened l (event.Lend i c.args.node c.args.size))) (sym same)
    (sound_lend w.items i c.args.node c.args.size c.self.invariant (inside, holds, omega (arith, c.if-size-lt1.false), omega (arith, c.if-size-gt-MOST_MEMBERS.false))))
