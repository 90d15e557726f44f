-- Operators as a script names them.
use Rattle.std.specs.Prelude.{ℕ, pos, ◌≤ℤ◌, Bool, true, false, max, min}
use Rattle.std.proofs.Common.{arith}
use Rattle.std.proofs.lemmas.Int.{ints}
use Rattle.msl_ops.specs.declared.op.Op.{Op}
use Rattle.msl_ops.specs.declared.op.OpKind.{OpKind}
use Rattle.msl_ops.specs.declared.op.OpKind.TheVariants.{Sum, Min, Max, And, Or, Xor, Gcd, AddMod, MulMod}

abbrev pub has_modulus : OpKind → Bool
has_modulus AddMod = true
has_modulus MulMod = true
has_modulus _ = false

-- a number from 1 to the greatest modulus
abbrev pub as_modulus : ℕ → ℕ
as_modulus m = max 1 (min m 1000000000000000000)

pub modulus_least : (m : ℕ) → pos 1 ≤ℤ pos (as_modulus m)
modulus_least m = omega (arith, ints)

pub modulus_most : (m : ℕ) → pos (as_modulus m) ≤ℤ pos 1000000000000000000
modulus_most m = omega (arith, ints)

-- an operator, at a modulus where it needs one
abbrev pub op_of : OpKind → ℕ → Op
op_of AddMod m = record { kind = AddMod; modulus = pos (as_modulus m); least = modulus_least m; most = modulus_most m }
op_of MulMod m = record { kind = MulMod; modulus = pos (as_modulus m); least = modulus_least m; most = modulus_most m }
op_of Sum m = record { kind = Sum; modulus = pos 1; least = record { le = tt }; most = record { le = tt } }
op_of Min m = record { kind = Min; modulus = pos 1; least = record { le = tt }; most = record { le = tt } }
op_of Max m = record { kind = Max; modulus = pos 1; least = record { le = tt }; most = record { le = tt } }
op_of And m = record { kind = And; modulus = pos 1; least = record { le = tt }; most = record { le = tt } }
op_of Or m = record { kind = Or; modulus = pos 1; least = record { le = tt }; most = record { le = tt } }
op_of Xor m = record { kind = Xor; modulus = pos 1; least = record { le = tt }; most = record { le = tt } }
op_of Gcd m = record { kind = Gcd; modulus = pos 1; least = record { le = tt }; most = record { le = tt } }
