use Rattle.std.proofs.Common.{arith, ◌<◌, ℕ, take, subst, sym}
use Rattle.std.proofs.lemmas.List.{take_more_set}
use Rattle.std.proofs.lemmas.List.Elements.{All-push}
use Rattle.msl_base.specs.Paths.{AreSteps}
use Rattle.msl_base.proofs.Filling.{IsPadded-push}
use Rattle.msl_base.proofs.path.Path.push.Goals as goal

pub invariant_of-result : goal.invariant_of-result
invariant_of-result c =
    let kept = c.self.invariant in
    let room : c.self.inside.len < 64 = omega (arith, kept.front.within, c.if-self-eq-MOST_LEVELS.false) in
    record {
      front = IsPadded-push 64 0 c.args.child c.self.inside.len c.self.inside.steps room kept.front;
      below = subst AreSteps (sym (take_more_set c.self.inside.steps c.self.inside.len c.args.child (omega (arith, kept.front.size_is))))
          (All-push (λ (child : ℕ). child < 64) (take c.self.inside.len c.self.inside.steps) c.args.child kept.below c.requires);
    }
