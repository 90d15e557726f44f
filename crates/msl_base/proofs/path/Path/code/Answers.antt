use Rattle.std.proofs.Common.{rules, arith, ◌*◌, ℕ, ap₂}
use Rattle.msl_base.specs.Codes.{HasCode}
use Rattle.msl_base.proofs.Codes.{code_fits}
use Rattle.msl_base.proofs.path.Path.code.Goals as goal

pub overflow_mul-code : goal.overflow_mul-code
overflow_mul-code c =
    let steps = c.as_slice-steps.result.now in
    let h : HasCode c.args.bits steps = search rules in
    record { fits = omega (arith, ap₂ (λ (m n : ℕ). m * n) c.loop-step.invariant c.field_size-size.ensures.size, code_fits c.args.bits steps c.loop-step.step-index h c.loop-step-test.true) }

pub overflow_add-code : goal.overflow_add-code
overflow_add-code c =
    let steps = c.as_slice-steps.result.now in
    let h : HasCode c.args.bits steps = search rules in
    record { fits = omega (arith, c.from.ensures, ap₂ (λ (m n : ℕ). m * n) c.loop-step.invariant c.field_size-size.ensures.size, code_fits c.args.bits steps c.loop-step.step-index h c.loop-step-test.true) }
