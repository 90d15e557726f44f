use Rattle.std.proofs.Common.{◌∙◌, ap, arith, get_or, set, None}
use Rattle.msl_core.specs.Groups.{full, total}
use Rattle.msl_core.proofs.Nodes.{cleared}
use Rattle.msl_core.proofs.node.Node.back.Goals as goal

pub overflow_sub-self : goal.overflow_sub-self
overflow_sub-self c =
    let o = cleared c.self.inside.lent.items c.args.slot (ap (λ x. full (get_or x.lent c.args.slot None)) c.self.view_is ∙ c.requires.lent) in
    omega (arith, c.self.invariant.out)

pub invariant_of-self-in-Some : goal.invariant_of-self-in-Some
invariant_of-self-in-Some c = record {
  out =
      let o = cleared c.self.inside.lent.items c.args.slot (ap (λ x. full (get_or x.lent c.args.slot None)) c.self.view_is ∙ c.requires.lent) in
      let n = ap (λ x. total full (set c.self.inside.lent.items c.args.slot x)) c.take.ensures.after in
      omega (arith, c.self.invariant.out);
  few_children = c.self.invariant.few_children;
}
