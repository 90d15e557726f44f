-- The shapes of the definitions are the variants of the code.
use Rattle.std.proofs.Common.{◌≡◌, ℕ, List, [], ◌∷◌, refl, ap}
use Rattle.msl_fun.specs.declared.expr.BinOp.{BinOp}
use Rattle.msl_fun.specs.declared.expr.Expr.{Expr, more_of-Expr}
use Rattle.msl_fun.specs.declared.expr.Expr.TheVariants.{Neg, Not, Bin, If, Let, Loop, Call, Call'}
use Rattle.msl_fun.specs.declared.expr.Expr.TheBlock as block
use Rattle.msl_fun.specs.Shapes.{minus, opposite, binary, choice, binding, looping, calling}

pub minus_is : (a : Expr) → Neg a ≡ minus a
unfolding block.shape-the_row-Expr-0 block.hidden-the_row-Expr-0 denote.Hole.Carrier.hidden
minus_is a = refl

pub opposite_is : (a : Expr) → Not a ≡ opposite a
unfolding block.shape-the_row-Expr-0 block.hidden-the_row-Expr-0 denote.Hole.Carrier.hidden
opposite_is a = refl

pub binary_is : (op : BinOp) (a b : Expr) → Bin op a b ≡ binary op a b
unfolding block.shape-the_row-Expr-0 block.hidden-the_row-Expr-0 denote.Hole.Carrier.hidden
binary_is op a b = refl

pub choice_is : (c a b : Expr) → If c a b ≡ choice c a b
unfolding block.shape-the_row-Expr-0 block.hidden-the_row-Expr-0 denote.Hole.Carrier.hidden
choice_is c a b = refl

pub binding_is : (a b : Expr) → Let a b ≡ binding a b
unfolding block.shape-the_row-Expr-0 block.hidden-the_row-Expr-0 denote.Hole.Carrier.hidden
binding_is a b = refl

pub looping_is : (n s e : Expr) → Loop n s e ≡ looping n s e
unfolding block.shape-the_row-Expr-0 block.hidden-the_row-Expr-0 denote.Hole.Carrier.hidden
looping_is n s e = refl

-- a call with one more argument in front
more_arguments : Expr → Expr → Expr
more_arguments e (Call' f shape args) = Call' f (tt ∷ shape) (more_of-Expr e args)
more_arguments e d = d

pub calling_is : (f : ℕ) (es : List Expr) → Call f es ≡ calling f es
unfolding block.shape-the_row-Expr-1 block.hidden-the_row-Expr-1 denote.Hole.Carrier.hidden more_arguments
calling_is f [] = refl
calling_is f (e ∷ es) = ap (more_arguments e) (calling_is f es)
