-- Names for the shapes of an expression whose parts are expressions, to match on and to build.
use Rattle.std.specs.Prelude.{ℕ, List, [], ◌∷◌}
use mathlib.Core.Former.{none_left, this, list}
use Rattle.msl_fun.specs.declared.expr.BinOp.{BinOp}
use Rattle.msl_fun.specs.declared.expr.Expr.{Expr, Row_of-Expr, end_of-Expr, more_of-Expr}
use Rattle.msl_fun.specs.declared.expr.Expr.TheVariants.{Neg', Not', Bin', If', Let', Loop', Call'}

pattern abbrev pub minus : Expr → Expr
minus a = Neg' tt (more_of-Expr a end_of-Expr)

pattern abbrev pub opposite : Expr → Expr
opposite a = Not' tt (more_of-Expr a end_of-Expr)

pattern abbrev pub binary : BinOp → Expr → Expr → Expr
binary op a b = Bin' op tt (more_of-Expr a end_of-Expr) tt (more_of-Expr b end_of-Expr)

pattern abbrev pub choice : Expr → Expr → Expr → Expr
choice c a b = If' tt (more_of-Expr c end_of-Expr) tt (more_of-Expr a end_of-Expr) tt (more_of-Expr b end_of-Expr)

pattern abbrev pub binding : Expr → Expr → Expr
binding a b = Let' tt (more_of-Expr a end_of-Expr) tt (more_of-Expr b end_of-Expr)

pattern abbrev pub looping : Expr → Expr → Expr → Expr
looping n s e = Loop' tt (more_of-Expr n end_of-Expr) tt (more_of-Expr s end_of-Expr) tt (more_of-Expr e end_of-Expr)

-- a list of expressions as the arguments of a call
abbrev pub units : List Expr → List (Unit {0})
units [] = []
units (e ∷ es) = tt ∷ units es

abbrev pub row : (es : List Expr) → Row_of-Expr ((list this).count (units es) none_left)
row [] = end_of-Expr
row (e ∷ es) = more_of-Expr e (row es)

abbrev pub calling : ℕ → List Expr → Expr
calling f es = Call' f (units es) (row es)
