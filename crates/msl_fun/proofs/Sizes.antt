-- Which parts of an expression may be evaluated, and that they are smaller, by the variant of the code.
use Rattle.std.proofs.Common.{◌≡◌, ℕ, zero, suc, ◌+◌, ◌<◌, ◌≤◌, List, [], ◌∷◌, length, take, drop, Some, slice_get, refl, ap, ◌∙◌, subst, arith}
use Rattle.msl_fun.specs.declared.expr.BinOp.{BinOp}
use Rattle.msl_fun.specs.declared.expr.Expr.{Expr, Row_of-Expr, end_of-Expr, more_of-Expr, items-the_row-Expr, items_hidden-the_row-Expr-1}
use Rattle.msl_fun.specs.declared.expr.Expr.TheVariants.{Lit, Slot, Neg, Not, Bin, If, Let, Loop, Call, Call'}
use Rattle.msl_fun.specs.declared.expr.Expr.TheBlock as block
use Rattle.msl_fun.specs.declared.funs.Fun.{Fun}
use Rattle.msl_fun.specs.Shapes.{minus, opposite, binary, choice, binding, looping}
use Rattle.msl_fun.specs.Checks.{widths_of, count_of}
use Rattle.msl_fun.specs.Evaluable.{IsEvaluable, AreArguments, AreEvaluable, size_of, size_of_arguments, size_of_all, size_of_funs}
use Rattle.msl_fun.proofs.Nodes.{row_of}

-- ---- parts that may be evaluated

module _ (known : List Fun) (n : ℕ) where
  pub fits-Slot : (k : ℕ) → IsEvaluable known n (Slot k) → k < n
  unfolding IsEvaluable
  fits-Slot k h = h

  pub fits-Neg : (a : Expr) → IsEvaluable known n (Neg a) → IsEvaluable known n a
  unfolding IsEvaluable block.shape-the_row-Expr-0 block.hidden-the_row-Expr-0 denote.Hole.Carrier.hidden
  fits-Neg a h = h

  pub fits-Not : (a : Expr) → IsEvaluable known n (Not a) → IsEvaluable known n a
  unfolding IsEvaluable block.shape-the_row-Expr-0 block.hidden-the_row-Expr-0 denote.Hole.Carrier.hidden
  fits-Not a h = h

  pub fits-Bin : (op : BinOp) (a b : Expr) → IsEvaluable known n (Bin op a b) → IsEvaluable known n a × IsEvaluable known n b
  unfolding IsEvaluable block.shape-the_row-Expr-0 block.hidden-the_row-Expr-0 denote.Hole.Carrier.hidden
  fits-Bin op a b h = h

  pub fits-If : (c a b : Expr) → IsEvaluable known n (If c a b) → IsEvaluable known n c × IsEvaluable known n a × IsEvaluable known n b
  unfolding IsEvaluable block.shape-the_row-Expr-0 block.hidden-the_row-Expr-0 denote.Hole.Carrier.hidden
  fits-If c a b h = h

  pub fits-Let : (a b : Expr) → IsEvaluable known n (Let a b) → (n < 32) × IsEvaluable known n a × IsEvaluable known (n + 1) b
  unfolding IsEvaluable block.shape-the_row-Expr-0 block.hidden-the_row-Expr-0 denote.Hole.Carrier.hidden
  fits-Let a b h = h

  pub fits-Loop : (m s e : Expr) → IsEvaluable known n (Loop m s e) → (n + 1 < 32) × IsEvaluable known n m × IsEvaluable known n s × IsEvaluable known (n + 2) e
  unfolding IsEvaluable block.shape-the_row-Expr-0 block.hidden-the_row-Expr-0 denote.Hole.Carrier.hidden
  fits-Loop m s e h = h

  arguments_fit : (m : _) (row : Row_of-Expr m) → AreArguments known n row → AreEvaluable known n (items-the_row-Expr m row)
  unfolding IsEvaluable AreEvaluable
  arguments_fit m end_of-Expr h = tt
  arguments_fit m (more_of-Expr e es) h = (h.0, arguments_fit _ es h.1)

  counted_row : (m : _) (row : Row_of-Expr m) → count_of known row ≡ length (items-the_row-Expr m row)
  counted_row m end_of-Expr = refl
  counted_row m (more_of-Expr e es) = omega (arith, counted_row _ es)

  pub fits-Call : (f : ℕ) (args : List Expr) → IsEvaluable known n (Call f args) → (widths_of known f ≡ Some (length args, 1)) × AreEvaluable known n args
  unfolding IsEvaluable
  fits-Call f args h =
      let row = row_of (Call f args) in
      let items = items_hidden-the_row-Expr-1 args in (
        h.0 ∙ ap (λ (k : ℕ). Some (k, 1)) (counted_row row.0 row.1 ∙ ap (length {A = Expr}) items),
        subst (AreEvaluable known n) items (arguments_fit row.0 row.1 h.1),
      )

  pub fits_more : (e : Expr) (es : List Expr) → AreEvaluable known n (e ∷ es) → IsEvaluable known n e × AreEvaluable known n es
  unfolding AreEvaluable
  fits_more e es h = h

-- ---- sizes

pub size-Neg : (a : Expr) → size_of (Neg a) ≡ size_of a + 2
unfolding size_of block.shape-the_row-Expr-0 block.hidden-the_row-Expr-0 denote.Hole.Carrier.hidden
size-Neg a = refl

pub size-Not : (a : Expr) → size_of (Not a) ≡ size_of a + 2
unfolding size_of block.shape-the_row-Expr-0 block.hidden-the_row-Expr-0 denote.Hole.Carrier.hidden
size-Not a = refl

pub size-Bin : (op : BinOp) (a b : Expr) → size_of (Bin op a b) ≡ size_of a + size_of b + 1
unfolding size_of block.shape-the_row-Expr-0 block.hidden-the_row-Expr-0 denote.Hole.Carrier.hidden
size-Bin op a b = refl

pub size-If : (c a b : Expr) → size_of (If c a b) ≡ size_of c + size_of a + size_of b + 1
unfolding size_of block.shape-the_row-Expr-0 block.hidden-the_row-Expr-0 denote.Hole.Carrier.hidden
size-If c a b = refl

pub size-Let : (a b : Expr) → size_of (Let a b) ≡ size_of a + size_of b + 1
unfolding size_of block.shape-the_row-Expr-0 block.hidden-the_row-Expr-0 denote.Hole.Carrier.hidden
size-Let a b = refl

pub size-Loop : (n s e : Expr) → size_of (Loop n s e) ≡ size_of n + size_of s + size_of e + 1
unfolding size_of block.shape-the_row-Expr-0 block.hidden-the_row-Expr-0 denote.Hole.Carrier.hidden
size-Loop n s e = refl

arguments_size : (m : _) (row : Row_of-Expr m) → size_of_arguments row ≡ size_of_all (items-the_row-Expr m row)
unfolding size_of size_of_all
arguments_size m end_of-Expr = refl
arguments_size m (more_of-Expr e es) = ap (λ (k : ℕ). size_of e + k + 1) (arguments_size _ es)

pub size-Call : (f : ℕ) (args : List Expr) → size_of (Call f args) ≡ size_of_all args + 1
unfolding size_of
size-Call f args =
    let row = row_of (Call f args) in
    ap (λ (k : ℕ). k + 1) (arguments_size row.0 row.1 ∙ ap size_of_all (items_hidden-the_row-Expr-1 args))

pub size_some : (e : Expr) → 1 ≤ size_of e
unfolding size_of
size_some (Lit x) = omega arith
size_some (Slot k) = omega arith
size_some (minus a) = omega arith
size_some (opposite a) = omega arith
size_some (binary op a b) = omega arith
size_some (choice c a b) = omega arith
size_some (binding a b) = omega arith
size_some (looping n s e) = omega arith
size_some (Call' f _ args) = omega arith

pub size-more : (e : Expr) (es : List Expr) → size_of_all (e ∷ es) ≡ size_of e + size_of_all es + 1
unfolding size_of_all
size-more e es = refl

-- a function is smaller than the list in which it stands
pub size_before : (fs : List Fun) (k : ℕ) (f : Fun) (e : Expr) (es : List Expr) → slice_get fs k ≡ Some f → f.results ≡ e ∷ es → size_of_funs (take k fs) + size_of e < size_of_funs fs
unfolding size_of_funs size_of_all
size_before [] k f e es found is = absurd cc
size_before (g ∷ fs) zero f e es found is =
    let same : g ≡ f = cc in
    let all : size_of_all g.results ≡ size_of e + size_of_all es + 1 = ap (λ (h : Fun). size_of_all h.results) same ∙ ap size_of_all is in
    omega arith
size_before (g ∷ fs) (suc k) f e es found is = omega (arith, size_before fs k f e es found is)

-- an expression is smaller than the list in which it stands
pub size_within : (es : List Expr) (k : ℕ) (e : Expr) (rest : List Expr) → drop k es ≡ e ∷ rest → size_of e < size_of_all es
unfolding size_of_all
size_within [] zero e rest is = absurd cc
size_within [] (suc k) e rest is = absurd cc
size_within (d ∷ es) zero e rest is =
    let same : size_of d ≡ size_of e = ap size_of cc in
    omega arith
size_within (d ∷ es) (suc k) e rest is = omega (arith, size_within es k e rest is)
