use Rattle.std.proofs.Common.{◌∙◌, ap, arith, length, [], ◌∷◌, ◌++◌, length-append}
use Rattle.msl_base.specs.Covers.{all_children, split}
use Rattle.msl_core.proofs.Counts.{length_children-snoc}
use Rattle.msl_core.proofs.node.Node.split.Goals as goal

pub push_children-requires-clause-room : goal.push_children-requires-clause-room
push_children-requires-clause-room c =
    omega (arith, c.take_newest-path.ensures.len, c.take_newest-path.ensures.room, c.in_ok-reserve.ensures.ok, c.from.ensures)

pub invariant_of-self-2 : goal.invariant_of-self-2
invariant_of-self-2 c = record {
  out = c.self.invariant.out;
  few_children =
      let s = split c.take_newest-path.result c.args.count in
      let n = c.push_reserved.ensures.items ∙ ap (λ l. l ++ c.new.result ∷ []) c.in_ok-reserve-2.ensures.items ∙ ap (λ x. c.self.inside.splits.items ++ x ∷ []) c.new.ensures in
      omega (arith, c.self.invariant.few_children, c.requires.few, ap (λ l. length (all_children l)) n, ap length n, length_children-snoc c.self.inside.splits.items s, length-append c.self.inside.splits.items (s ∷ []));
}
