use Rattle.std.proofs.Common.{arith, ap, sym, refl, ◌∙◌, ◌++◌, ◌∷◌, [], length}
use Rattle.std.proofs.lemmas.Int.{ints}
use Rattle.msl_core.specs.Groups.{rooted}
use Rattle.msl_core.proofs.Moves.{length-rooted, rooted-more}
use Rattle.msl_core.proofs.group.Group.new.Goals as goal

pub loop-i-preserved : goal.loop-i-preserved
loop-i-preserved c =
    c.in_ok-push.ensures.items ∙ ap (λ l. l ++ c.in_ok-new.field-0 ∷ []) c.loop-i.invariant ∙ ap (λ x. rooted c.loop-i.i c.args.start 0 ++ x ∷ []) c.in_ok-new.ensures
    ∙ sym (rooted-more c.loop-i.i _ c.args.start refl)

pub invariant_of-result : goal.invariant_of-result
invariant_of-result c = record {
  few = let l = ap length c.loop-i.invariant ∙ length-rooted c.loop-i.i c.args.start 0 in omega (arith, c.requires, c.loop-i.auto.i-end);
  above = omega (arith, ints);
  below = omega (arith, ints);
}
