-- The operator table: the rows in order, their names, and how great their modulus may be.
use Rattle.std.specs.Prelude.{ℕ, ℤ, pos, List, [], ◌∷◌, codes, find, Option}
use Rattle.std.specs.Str.{bytes_eq}
use Rattle.msl_base.specs.declared.limits.TheConstants.{GREATEST_MODULUS}
use Rattle.msl_ops.specs.declared.op.OpKind.{OpKind}
use Rattle.msl_ops.specs.declared.op.OpKind.TheVariants.{Sum, Min, Max, And, Or, Xor, Gcd, AddMod, MulMod}

abbrev pub rows : List OpKind
rows = Sum ∷ Min ∷ Max ∷ And ∷ Or ∷ Xor ∷ Gcd ∷ AddMod ∷ MulMod ∷ []

abbrev pub name_of : OpKind → List ℕ
name_of Sum = codes "sum"
name_of Min = codes "min"
name_of Max = codes "max"
name_of And = codes "and"
name_of Or = codes "or"
name_of Xor = codes "xor"
name_of Gcd = codes "gcd"
name_of AddMod = codes "addmod"
name_of MulMod = codes "mulmod"

-- 1 where the row needs no modulus
abbrev pub greatest_modulus : OpKind → ℤ
greatest_modulus AddMod = GREATEST_MODULUS
greatest_modulus MulMod = GREATEST_MODULUS
greatest_modulus _ = pos 1

-- the first row with this name
abbrev pub kind_named : List OpKind → List ℕ → Option OpKind
kind_named kinds name = find (λ kind. bytes_eq (name_of kind) name) kinds
