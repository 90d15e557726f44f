use Rattle.std.proofs.Common.{◌∙◌, ap, arith, Some, [], ◌∷◌, ◌++◌}
use Rattle.msl_core.specs.Groups.{full, total}
use Rattle.msl_core.proofs.Nodes.{total_full-le}
use Rattle.msl_core.proofs.Totals.{total-append}
use Rattle.msl_core.proofs.node.Node.lend.Goals as goal

pub overflow_add-self : goal.overflow_add-self
overflow_add-self c =
    let x = c.self.inside in
    omega (arith, total_full-le x.lent.items, c.self.invariant.out, x.lent.ok.0, x.lent.ok.1, x.lent.small)

pub invariant_of-self-2 : goal.invariant_of-self-2
invariant_of-self-2 c = record {
  out =
      let n = ap (total full) (c.push_reserved.ensures.items ∙ ap (λ l. l ++ Some c.take_newest-path.result ∷ []) c.in_ok-reserve.ensures.items) in
      omega (arith, c.self.invariant.out, total-append full c.self.inside.lent.items (Some c.take_newest-path.result ∷ []));
  few_children = c.self.invariant.few_children;
}
