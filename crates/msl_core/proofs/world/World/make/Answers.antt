use Rattle.std.proofs.Common.{arith, sym, ◌<◌, subst, length}
use Rattle.msl_core.specs.Groups.{Kept}
use Rattle.msl_core.specs.declared.place.Place.{Place}
use Rattle.msl_core.proofs.Applying.{place_is, sound_made}
use Rattle.msl_core.proofs.world.World.make.Goals as goal

pub make-requires : goal.make-requires
make-requires c =
    let w = c.self.inside.places in let inside : c.args.group < length w.items = omega (arith, c.if-i-len.false, c.len.ensures, w.ok.0) in
    subst (λ (x : Place). Kept x.group) (sym (place_is w.items c.args.group c.index_mut.result.now c.index_mut.ensures.value inside)) (c.self.invariant.kept c.args.group inside)

pub invariant_of-self : goal.invariant_of-self
invariant_of-self c =
    let w = c.self.inside.places in let inside : c.args.group < length w.items = omega (arith, c.if-i-len.false, c.len.ensures, w.ok.0) in
    sound_made w.items c.args.group c.args.m c.index_mut.result.now c.make.new.self c.make.result c.self.invariant inside (place_is w.items c.args.group c.index_mut.result.now c.index_mut.ensures.value inside) c.make.ensures
