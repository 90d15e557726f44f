-- The modulus of operators that need none.
use Rattle.std.specs.Prelude.{pos, ◌≤ℤ◌}
use Rattle.std.proofs.Common.{arith}
use Rattle.std.proofs.lemmas.Int.{ints}
use Rattle.msl_ops.specs.declared.op.OpKind.{OpKind}
use Rattle.msl_ops.specs.declared.op.OpKind.TheVariants.{Sum, Min, Max, And, Or, Xor, Gcd, AddMod, MulMod}
use Rattle.msl_ops.specs.Table.{greatest_modulus}

pub one_fits : (kind : OpKind) → pos 1 ≤ℤ greatest_modulus kind
one_fits Sum = omega (arith, ints)
one_fits Min = omega (arith, ints)
one_fits Max = omega (arith, ints)
one_fits And = omega (arith, ints)
one_fits Or = omega (arith, ints)
one_fits Xor = omega (arith, ints)
one_fits Gcd = omega (arith, ints)
one_fits AddMod = omega (arith, ints)
one_fits MulMod = omega (arith, ints)
