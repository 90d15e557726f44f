use Rattle.std.proofs.Common.{arith, subst, Ok}
use Rattle.msl_side.proofs.Leading.{element-some}
use Rattle.msl_side.proofs.places.in_turn.Goals as goal

pub returns-in-Err-clause-led : goal.returns-in-Err-clause-led
returns-in-Err-clause-led g c =
    let inv = c.loop-i.invariant in (
      c.loop-i.i,
      c.loop-i-test.true,
      c.in-Err.ensures,
      λ k lt.
          let y = element-some c.loop-i.all.items k (omega (arith, lt, inv.0)) in
          (y.0, subst (λ z. goal.F-post g c.args.f.now k (Ok z)) (y.1 y.0) (inv.4 k y.0 lt)),
    )
