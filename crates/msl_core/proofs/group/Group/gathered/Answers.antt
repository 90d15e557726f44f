use Rattle.std.proofs.Common.{arith, ap, ◌∙◌, length}
use Rattle.std.proofs.lemmas.Int.{ints}
use Rattle.std.proofs.lemmas.List.{get_or_default}
use Rattle.msl_core.specs.Groups.{Node, node_at, idle}
use Rattle.msl_core.specs.Stored.{reach}
use Rattle.msl_core.proofs.group.Group.gathered.Goals as goal

pub returns-clause-sum : goal.returns-clause-sum
returns-clause-sum c =
    let x = c.self.inside in let n = ap (λ g. length g.nodes) c.self.view_is in let at = ap (λ g. g.at) c.self.view_is in
    let same = get_or_default x.nodes.items x.at c.index.result.now idle (omega (arith, c.requires.token_there)) in
    let s = ap (λ (y : Node). y.surplus) (c.index.ensures ∙ same ∙ ap (λ g. node_at g g.at) c.self.view_is) in let t = ap (λ g. g.tally) c.self.view_is in
    omega (arith, ints, c.self.invariant.above, c.self.invariant.below, c.surplus.ensures.above, c.surplus.ensures.below, c.surplus.ensures.surplus)

pub returns-clause-above : goal.returns-clause-above
returns-clause-above c =
    let t = ap (λ g. g.tally) c.self.view_is in let r = ap (λ g. reach g.at) c.self.view_is in
    omega (arith, ints, c.self.invariant.above, c.self.invariant.below, c.surplus.ensures.above, c.surplus.ensures.below)

pub returns-clause-below : goal.returns-clause-below
returns-clause-below c =
    let t = ap (λ g. g.tally) c.self.view_is in let r = ap (λ g. reach g.at) c.self.view_is in
    omega (arith, ints, c.self.invariant.above, c.self.invariant.below, c.surplus.ensures.above, c.surplus.ensures.below)
