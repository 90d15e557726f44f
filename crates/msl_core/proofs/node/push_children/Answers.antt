use Rattle.std.proofs.Common.{◌∙◌, ap, arith, ◌-◌, ◌++◌, ◌∷◌, [], append_assoc}
use Rattle.msl_base.specs.Covers.{children}
use Rattle.msl_core.proofs.Nodes.{children-last}
use Rattle.msl_core.proofs.node.push_children.Goals as goal

pub loop-left-preserved : goal.loop-left-preserved
loop-left-preserved c = record {
  room = omega (arith, c.loop-left.invariant.room, c.push_back_reserved.ensures.len, c.push_back_reserved.ensures.capacity, c.loop-left-test.true);
  few = omega (arith, c.loop-left.invariant.few);
  so_far =
      ap (λ l. l ++ children c.args.path (c.loop-left.left - 1)) (c.push_back_reserved.ensures.items ∙ ap (λ p. c.loop-left.held.items ++ p ∷ []) c.in-Some.ensures.pushed)
      ∙ append_assoc c.loop-left.held.items ((c.args.path ++ (c.loop-left.left - 1) ∷ []) ∷ []) (children c.args.path (c.loop-left.left - 1))
      ∙ ap (λ l. c.loop-left.held.items ++ l) (children-last c.args.path c.loop-left.left c.loop-left-test.true)
      ∙ c.loop-left.invariant.so_far;
}
