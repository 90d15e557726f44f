use Rattle.std.proofs.Common.{◌≡◌, arith}
use Rattle.std.proofs.lemmas.Nat.Gcd.{IsGcd-from_zero, IsGcd-from_mod, same_from_IsGcd}
use Rattle.msl_ops.specs.Gcd.{gcd, gcd_is}
use Rattle.msl_ops.proofs.gcd.gcd.Goals as goal

pub loop-b-preserved : goal.loop-b-preserved
loop-b-preserved c = λ g h. c.loop-b.invariant g (IsGcd-from_mod c.loop-b.a c.loop-b.b g h)

pub returns : goal.returns
returns c =
    let ended : c.loop-b.b ≡ 0 = omega arith in
    same_from_IsGcd c.args.a c.args.b c.loop-b.a (gcd c.args.a c.args.b)
    (c.loop-b.invariant c.loop-b.a (IsGcd-from_zero c.loop-b.a c.loop-b.b ended))
    (gcd_is c.args.a c.args.b)
