use Rattle.std.proofs.Common.{arith, subst, sym}
use Rattle.std.proofs.lemmas.Int.{ints}
use Rattle.msl_core.specs.Groups.{IsCounted}
use Rattle.msl_core.proofs.Nodes.{bounded, total_full-le}
use Rattle.msl_core.proofs.node.Node.surplus.Goals as goal

pub returns-clause-above : goal.returns-clause-above
returns-clause-above c =
    let x = c.self.inside in let l = total_full-le x.lent.items in
    let b = bounded (record { held = x.held.items; lent = x.lent.items; shut = x.shut.items; splits = x.splits.items; surplus = x.surplus; black = x.black }) (subst IsCounted (sym c.self.view_is) c.requires.counted) c.self.invariant.few_children
    (omega (arith, x.splits.ok.0, x.splits.ok.1, x.splits.small)) (omega (arith, x.held.ok.0, x.held.small.0, x.held.small.1)) (omega (arith, l, x.lent.ok.0, x.lent.ok.1, x.lent.small)) (omega (arith, x.shut.ok.0, x.shut.ok.1, x.shut.small)) in
    omega (arith, ints, b.0)

pub returns-clause-below : goal.returns-clause-below
returns-clause-below c =
    let x = c.self.inside in let l = total_full-le x.lent.items in
    let b = bounded (record { held = x.held.items; lent = x.lent.items; shut = x.shut.items; splits = x.splits.items; surplus = x.surplus; black = x.black }) (subst IsCounted (sym c.self.view_is) c.requires.counted) c.self.invariant.few_children
    (omega (arith, x.splits.ok.0, x.splits.ok.1, x.splits.small)) (omega (arith, x.held.ok.0, x.held.small.0, x.held.small.1)) (omega (arith, l, x.lent.ok.0, x.lent.ok.1, x.lent.small)) (omega (arith, x.shut.ok.0, x.shut.ok.1, x.shut.small)) in
    omega (arith, ints, b.1)
