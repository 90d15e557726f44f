use Rattle.std.proofs.Common.{◌≡◌, ℤ, refl, pos, zero, suc, negsuc}
use Rattle.msl_fun.specs.declared.expr.BinOp.{BinOp}
use Rattle.msl_fun.specs.declared.expr.BinOp.TheVariants.{And, Or}
use Rattle.msl_fun.specs.Meaning.{give, both, operated}
use Rattle.msl_muscle_laws.proofs.laws.operands.Goals as goal

both_given : (op : BinOp) (a b : ℤ) → (both op (give a) (give b)).outcome ≡ operated op a b
both_given And (pos zero) b = refl
both_given And (pos (suc n)) b = refl
both_given And (negsuc n) b = refl
both_given Or (pos zero) b = refl
both_given Or (pos (suc n)) b = refl
both_given Or (negsuc n) b = refl
both_given op a b = refl

pub returns : goal.returns
returns c = both_given
