-- What the operators do. Values are whole numbers without bounds; only what is handed out has to fit 64 signed bits.
use Rattle.std.specs.Prelude.{ℕ, ◌^◌, ℤ, pos, negsuc, ◌+ℤ◌, ◌*ℤ◌, ◌≤ℤ◌, ◌<ℤ◌, unsigned_abs, int_le, ◌&&◌, FitsSigned, Bool, List, Result, Ok, Err, if◌then◌else◌}
use Rattle.std.specs.Int.{w64, int_min, int_max, int_rem_euclid, int_bit_and, int_bit_or, int_bit_xor}
use Rattle.msl_base.specs.declared.fault.Fault.{Fault}
use Rattle.msl_base.specs.declared.fault.Fault.TheVariants.{Overflow}
use Rattle.msl_ops.specs.declared.op.OpKind.{OpKind}
use Rattle.msl_ops.specs.declared.op.OpKind.TheVariants.{Sum, Min, Max, And, Or, Xor, Gcd, AddMod, MulMod}
use Rattle.msl_ops.specs.Gcd.{gcd}
use Rattle.msl_ops.specs.Lawful.{folded}

-- ---- the columns of the table, at a modulus m

abbrev pub unit_of : OpKind → ℤ → ℤ
unit_of Min m = pos 9223372036854775807
unit_of Max m = negsuc 9223372036854775807
unit_of And m = negsuc 0
unit_of MulMod m = int_rem_euclid (pos 1) m
unit_of _ m = pos 0

abbrev pub lift_of : OpKind → ℤ → ℤ → ℤ
lift_of Gcd m x = pos (unsigned_abs x)
lift_of AddMod m x = int_rem_euclid x m
lift_of MulMod m x = int_rem_euclid x m
lift_of _ m x = x

abbrev pub combine_of : OpKind → ℤ → ℤ → ℤ → ℤ
combine_of Sum m a b = a +ℤ b
combine_of Min m a b = int_min a b
combine_of Max m a b = int_max a b
combine_of And m a b = int_bit_and w64 a b
combine_of Or m a b = int_bit_or w64 a b
combine_of Xor m a b = int_bit_xor w64 a b
combine_of Gcd m a b = pos (gcd (unsigned_abs a) (unsigned_abs b))
combine_of AddMod m a b = int_rem_euclid (a +ℤ b) m
combine_of MulMod m a b = int_rem_euclid (a *ℤ b) m

-- the numbers that the lifted ones and all results are among
abbrev pub IsInDomainOf : OpKind → ℤ → ℤ → Type 0
IsInDomainOf Sum m z = Unit {0}
IsInDomainOf Gcd m z = (pos 0 ≤ℤ z) × (z ≤ℤ pos (2 ^ 63))
IsInDomainOf AddMod m z = (pos 0 ≤ℤ z) × (z <ℤ m)
IsInDomainOf MulMod m z = (pos 0 ≤ℤ z) × (z <ℤ m)
IsInDomainOf _ m z = FitsSigned w64 z

abbrev pub fold_of : OpKind → ℤ → List ℤ → ℤ
fold_of kind m xs = folded (unit_of kind m) (lift_of kind m) (combine_of kind m) xs

-- ---- what is handed out

abbrev pub is_i64 : ℤ → Bool
is_i64 z = int_le (negsuc 9223372036854775807) z && int_le z (pos 9223372036854775807)

abbrev pub settle : ℕ → ℤ → Result ℤ Fault
settle stage v = if is_i64 v then Ok v else Err (Overflow stage)
