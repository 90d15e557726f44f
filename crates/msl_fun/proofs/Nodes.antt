-- What the definitions say of an expression, by the variant of the code.
use Rattle.std.proofs.Common.{◌≡◌, ℕ, ℤ, ◌≤◌, arith, List, [], ◌∷◌, refl, ap, ◌∙◌}
use mathlib.Core.Former.{Count}
use Rattle.msl_fun.specs.declared.expr.BinOp.{BinOp}
use Rattle.msl_fun.specs.declared.expr.Expr.{Expr, Row_of-Expr, end_of-Expr, more_of-Expr, items-the_row-Expr, items_hidden-the_row-Expr-1}
use Rattle.msl_fun.specs.declared.expr.Expr.TheVariants.{Lit, Slot, Neg, Not, Bin, If, Let, Loop, Call, Call'}
use Rattle.msl_fun.specs.declared.expr.Expr.TheBlock as block
use Rattle.msl_fun.specs.declared.funs.Fun.{Fun}
use Rattle.msl_fun.specs.Shapes.{minus, opposite, binary, choice, binding, looping}
use Rattle.msl_fun.specs.Meaning.{Counted, give, node, ◌>>=◌, variable, value, values, arguments, call, meanings}
use Rattle.msl_fun.specs.Budget.{value_over, values_over, call_over, minus_over, opposite_over, binary_over, choice_over, binding_over, looping_over, calling_over}

module _ (known : List Fun) (scope : List ℤ) where
  pub value-Lit : (n : ℤ) → value_over known (Lit n) scope ≡ node (give n)
  unfolding value_over
  value-Lit n = refl

  pub value-Slot : (k : ℕ) → value_over known (Slot k) scope ≡ node (give (variable scope k))
  unfolding value_over
  value-Slot k = refl

  pub value-Neg : (a : Expr) → value_over known (Neg a) scope ≡ node (minus_over known a scope)
  unfolding value_over block.shape-the_row-Expr-0 block.hidden-the_row-Expr-0 denote.Hole.Carrier.hidden
  value-Neg a = refl

  pub value-Not : (a : Expr) → value_over known (Not a) scope ≡ node (opposite_over known a scope)
  unfolding value_over block.shape-the_row-Expr-0 block.hidden-the_row-Expr-0 denote.Hole.Carrier.hidden
  value-Not a = refl

  pub value-Bin : (op : BinOp) (a b : Expr) → value_over known (Bin op a b) scope ≡ node (binary_over known op a b scope)
  unfolding value_over block.shape-the_row-Expr-0 block.hidden-the_row-Expr-0 denote.Hole.Carrier.hidden
  value-Bin op a b = refl

  pub value-If : (c a b : Expr) → value_over known (If c a b) scope ≡ node (choice_over known c a b scope)
  unfolding value_over block.shape-the_row-Expr-0 block.hidden-the_row-Expr-0 denote.Hole.Carrier.hidden
  value-If c a b = refl

  pub value-Let : (a b : Expr) → value_over known (Let a b) scope ≡ node (binding_over known a b scope)
  unfolding value_over block.shape-the_row-Expr-0 block.hidden-the_row-Expr-0 denote.Hole.Carrier.hidden
  value-Let a b = refl

  pub value-Loop : (n s e : Expr) → value_over known (Loop n s e) scope ≡ node (looping_over known n s e scope)
  unfolding value_over block.shape-the_row-Expr-0 block.hidden-the_row-Expr-0 denote.Hole.Carrier.hidden
  value-Loop n s e = refl

-- at least one node is begun
pub some_begun : (known : List Fun) (scope : List ℤ) (e : Expr) → 1 ≤ (value_over known e scope).begun
unfolding value_over
some_begun known scope (Lit n) = omega arith
some_begun known scope (Slot k) = omega arith
some_begun known scope (minus a) = omega arith
some_begun known scope (opposite a) = omega arith
some_begun known scope (binary op a b) = omega arith
some_begun known scope (choice c a b) = omega arith
some_begun known scope (binding a b) = omega arith
some_begun known scope (looping n s e) = omega arith
some_begun known scope (Call' f _ args) = omega arith

-- the arguments of a call, as a row
abbrev pub row_of : Expr → (n : Count) × Row_of-Expr n
row_of (Call' _ _ row) = (_, row)
row_of _ = (_, end_of-Expr)

module _ (known : List Fun) (scope : List ℤ) where
  arguments_are : (n : _) (row : Row_of-Expr n) → arguments (call (meanings [] known)) row scope ≡ values (call (meanings [] known)) (items-the_row-Expr n row) scope
  arguments_are n end_of-Expr = refl
  arguments_are n (more_of-Expr e es) =
      ap (λ (m : Counted (List ℤ)). value (call (meanings [] known)) e scope >>= λ x. m >>= λ xs. give (x ∷ xs)) (arguments_are _ es)

  pub value-Call : (f : ℕ) (args : List Expr) → value_over known (Call f args) scope ≡ node (calling_over known f args scope)
  unfolding value_over values_over call_over
  value-Call f args =
      let row = row_of (Call f args) in
      ap (λ (m : Counted (List ℤ)). node (m >>= call (meanings [] known) f))
      (arguments_are row.0 row.1 ∙ ap (λ (es : List Expr). values (call (meanings [] known)) es scope) (items_hidden-the_row-Expr-1 args))
