-- What an evaluation needs of an expression, and how large it is. The rules on a function give it.
use Rattle.std.specs.Prelude.{◌≡◌, ℕ, ◌+◌, ◌<◌, List, [], ◌∷◌, Some, ⊤}
use Rattle.msl_base.specs.declared.limits.TheConstants.{MOST_NAMES}
use Rattle.msl_fun.specs.declared.expr.Expr.{Expr, Row_of-Expr, end_of-Expr, more_of-Expr}
use Rattle.msl_fun.specs.declared.expr.Expr.TheVariants.{Lit, Slot, Call'}
use Rattle.msl_fun.specs.declared.funs.Fun.{Fun}
use Rattle.msl_fun.specs.Shapes.{minus, opposite, binary, choice, binding, looping}
use Rattle.msl_fun.specs.Checks.{widths_of, count_of}

module _ (known : List Fun) where
  unfoldable mutual
    -- where n variables are in scope, each that is named is one of them, at most 32 come to be in scope, and the calls fit
    pub IsEvaluable : ℕ → Expr → Type 0
    IsEvaluable n (Lit x) = ⊤
    IsEvaluable n (Slot k) = k < n
    IsEvaluable n (minus a) = IsEvaluable n a
    IsEvaluable n (opposite a) = IsEvaluable n a
    IsEvaluable n (binary op a b) = IsEvaluable n a × IsEvaluable n b
    IsEvaluable n (choice c a b) = IsEvaluable n c × IsEvaluable n a × IsEvaluable n b
    IsEvaluable n (binding a b) = (n < MOST_NAMES) × IsEvaluable n a × IsEvaluable (n + 1) b
    IsEvaluable n (looping m s e) = (n + 1 < MOST_NAMES) × IsEvaluable n m × IsEvaluable n s × IsEvaluable (n + 2) e
    IsEvaluable n (Call' f _ args) = (widths_of known f ≡ Some (count_of known args, 1)) × AreArguments n args

    pub AreArguments : ℕ → {m : _} → Row_of-Expr m → Type 0
    AreArguments n end_of-Expr = ⊤
    AreArguments n (more_of-Expr e es) = IsEvaluable n e × AreArguments n es

  unfoldable pub AreEvaluable : ℕ → List Expr → Type 0
  AreEvaluable n [] = ⊤
  AreEvaluable n (e ∷ es) = IsEvaluable n e × AreEvaluable n es

unfoldable mutual
  -- how many nodes an expression has, and one more for each argument and for the operand of a `-` or a `not`
  pub size_of : Expr → ℕ
  size_of (Lit x) = 1
  size_of (Slot k) = 1
  size_of (minus a) = size_of a + 2
  size_of (opposite a) = size_of a + 2
  size_of (binary op a b) = size_of a + size_of b + 1
  size_of (choice c a b) = size_of c + size_of a + size_of b + 1
  size_of (binding a b) = size_of a + size_of b + 1
  size_of (looping n s e) = size_of n + size_of s + size_of e + 1
  size_of (Call' f _ args) = size_of_arguments args + 1

  pub size_of_arguments : {m : _} → Row_of-Expr m → ℕ
  size_of_arguments end_of-Expr = 0
  size_of_arguments (more_of-Expr e es) = size_of e + size_of_arguments es + 1

unfoldable pub size_of_all : List Expr → ℕ
size_of_all [] = 0
size_of_all (e ∷ es) = size_of e + size_of_all es + 1

unfoldable pub size_of_funs : List Fun → ℕ
size_of_funs [] = 0
size_of_funs (f ∷ fs) = size_of_all f.results + size_of_funs fs + 1
