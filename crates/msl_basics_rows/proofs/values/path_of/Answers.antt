use Rattle.std.proofs.Common.{arith, ◌^◌, ◌<◌, ◌≤◌, ℕ, get_or, sym, subst}
use Rattle.std.proofs.Math.Pow.{pow_mono}
use Rattle.std.proofs.lemmas.List.Elements.{All-push}
use Rattle.msl_base.specs.Codes.{AreFields}
use Rattle.msl_basics_rows.proofs.values.path_of.Goals as goal

pub push-requires : goal.push-requires
push-requires c = let few : 2 ^ c.args.bits ≤ 2 ^ 6 = pow_mono c.requires in omega (arith, few, c.if-step-bits.false)

pub loop-step-preserved : goal.loop-step-preserved
loop-step-preserved c =
    let step = get_or c.args.steps.now c.loop-step.step-index 0 in
    let below : step < 2 ^ c.args.bits = omega (arith, c.if-step-bits.false) in
    subst (AreFields c.args.bits) (sym c.in_ok-path.ensures.pushed) (All-push (λ (step : ℕ). step < 2 ^ c.args.bits) c.loop-step.path step c.loop-step.invariant below)
