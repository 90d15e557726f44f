-- What a function means, with no limit on its cost: its outcome, and how many nodes were begun up to it.
use Rattle.std.specs.Prelude.{◌≡◌, ℕ, zero, suc, ◌+◌, ◌^◌, Bool, true, false, not, ◌&&◌, ◌||◌, ◌==◌, nat_lt, length, slice_get, ℤ, pos, negsuc, ◌+ℤ◌, ◌-ℤ◌, ◌*ℤ◌, neg_ℤ, int_lt, int_le, int_div, int_rem, List, [], ◌∷◌, ◌++◌, slice_index_or, Option, Some, None, Result, Ok, Err, if◌then◌else◌}
use Rattle.std.specs.Int.{int_min, int_max}
use Rattle.msl_base.specs.declared.limits.TheConstants.{MOST_BEGUN}
use Rattle.msl_fun.specs.declared.expr.BinOp.{BinOp}
use Rattle.msl_fun.specs.declared.expr.BinOp.TheVariants.{Add, Sub, Mul, Div, Rem, Eq, Ne, Lt, Le, Gt, Ge, And, Or, Min, Max}
use Rattle.msl_fun.specs.declared.expr.Expr.{Expr, Row_of-Expr, end_of-Expr, more_of-Expr}
use Rattle.msl_fun.specs.declared.expr.Expr.TheVariants.{Lit, Slot, Call'}
use Rattle.msl_fun.specs.declared.fault.EvalFault.{EvalFault}
use Rattle.msl_fun.specs.declared.fault.EvalFault.TheVariants.{Overflow, DivZero, Steps}
use Rattle.msl_fun.specs.declared.funs.Fun.{Fun}
use Rattle.msl_fun.specs.Shapes.{minus, opposite, binary, choice, binding, looping}

-- ---- outcomes and costs

-- an outcome, and how many nodes were begun up to it
pub record Counted (A : Type 0) : Type 0 where
  pub outcome : Result A EvalFault
  pub begun : ℕ

abbrev pub counted : {A : Type 0} → Result A EvalFault → ℕ → Counted A
counted outcome begun = record { outcome = outcome; begun = begun }

-- a step that begins no node
abbrev pub free : {A : Type 0} → Result A EvalFault → Counted A
free r = counted r 0

abbrev pub give : {A : Type 0} → A → Counted A
give x = free (Ok x)

-- one node is begun before all else
abbrev pub node : {A : Type 0} → Counted A → Counted A
node m = counted m.outcome (suc m.begun)

abbrev pub after : {A B : Type 0} → Result A EvalFault → ℕ → (A → Counted B) → Counted B
after (Ok x) n go = let m = go x in counted m.outcome (n + m.begun)
after (Err fault) n go = counted (Err fault) n

-- one after the other; a fault ends both
infixl 10 ◌>>=◌
abbrev pub ◌>>=◌ : {A B : Type 0} → Counted A → (A → Counted B) → Counted B
m >>= go = after m.outcome m.begun go

-- ---- numbers

-- a number of 64 bits
abbrev pub fits : ℤ → Bool
fits (pos n) = nat_lt n (2 ^ 63)
fits (negsuc n) = nat_lt n (2 ^ 63)

abbrev pub checked : ℤ → Result ℤ EvalFault
checked z = if fits z then Ok z else Err Overflow

-- any number but 0 is true
abbrev pub holds : ℤ → Bool
holds (pos zero) = false
holds (pos (suc n)) = true
holds (negsuc n) = true

abbrev pub truth : Bool → ℤ
truth true = pos 1
truth false = pos 0

abbrev pub same : ℤ → ℤ → Bool
same (pos a) (pos b) = a == b
same (negsuc a) (negsuc b) = a == b
same _ _ = false

-- the quotient has to be a number of 64 bits, for a remainder too
abbrev pub divided : (ℤ → ℤ → ℤ) → ℤ → ℤ → Result ℤ EvalFault
divided answer a b =
    if holds b then (if fits (int_div a b) then Ok (answer a b) else Err Overflow) else Err DivZero

-- an operator of two numbers
abbrev pub operated : BinOp → ℤ → ℤ → Result ℤ EvalFault
operated Add a b = checked (a +ℤ b)
operated Sub a b = checked (a -ℤ b)
operated Mul a b = checked (a *ℤ b)
operated Div a b = divided int_div a b
operated Rem a b = divided int_rem a b
operated Eq a b = Ok (truth (same a b))
operated Ne a b = Ok (truth (not (same a b)))
operated Lt a b = Ok (truth (int_lt a b))
operated Le a b = Ok (truth (int_le a b))
operated Gt a b = Ok (truth (int_lt b a))
operated Ge a b = Ok (truth (int_le b a))
operated And a b = Ok (truth (holds a && holds b))
operated Or a b = Ok (truth (holds a || holds b))
operated Min a b = Ok (int_min a b)
operated Max a b = Ok (int_max a b)

-- the value of `and` and `or` where the first operand decides it
abbrev pub decision : BinOp → ℤ → Option ℤ
decision And a = if holds a then None else Some (pos 0)
decision Or a = if holds a then Some (pos 1) else None
decision _ a = None

-- the second operand is evaluated only where the first doesn't decide
abbrev pub both : BinOp → Counted ℤ → Counted ℤ → Counted ℤ
both op m n = m >>= λ a. elim (decision op a) [ Some x ↦ give x | None ↦ n >>= λ b. free (operated op a b) ]

-- no turn where the number is not above 0
abbrev pub turns_of : ℤ → ℕ
turns_of (pos n) = n
turns_of (negsuc n) = 0

-- so many turns, from number i on; each makes the next value of the last
abbrev pub turns : ℕ → (ℕ → ℤ → Counted ℤ) → ℕ → ℤ → Counted ℤ
turns zero body i a = give a
turns (suc n) body i a = body i a >>= λ b. turns n body (i + 1) b

-- ---- expressions, over what the functions mean that they call

-- the value of a variable; each is in scope
abbrev pub variable : List ℤ → ℕ → ℤ
variable scope k = slice_index_or scope k (pos 0)

module _ (called : ℕ → List ℤ → Counted ℤ) where
  abbrev mutual
    -- the value of an expression where the variables in scope have these values
    pub value : Expr → List ℤ → Counted ℤ
    value (Lit n) scope = node (give n)
    value (Slot k) scope = node (give (variable scope k))
    value (minus a) scope = node (value a scope >>= λ x. free (checked (neg_ℤ x)))
    value (opposite a) scope = node (value a scope >>= λ x. give (truth (not (holds x))))
    value (binary op a b) scope = node (both op (value a scope) (value b scope))
    value (choice c a b) scope = node (value c scope >>= λ x. elim (holds x) [ true ↦ value a scope | false ↦ value b scope ])
    value (binding a b) scope = node (value a scope >>= λ x. value b (scope ++ x ∷ []))
    value (looping n s e) scope =
        node (value n scope >>= λ count. value s scope >>= λ first. turns (turns_of count) (λ i a. value e (scope ++ pos i ∷ a ∷ [])) 0 first)
    value (Call' f _ args) scope = node (arguments args scope >>= called f)

    pub arguments : {n : _} → Row_of-Expr n → List ℤ → Counted (List ℤ)
    arguments end_of-Expr scope = give []
    arguments (more_of-Expr e es) scope = value e scope >>= λ x. arguments es scope >>= λ xs. give (x ∷ xs)

  -- the values of several expressions, in order
  abbrev pub values : List Expr → List ℤ → Counted (List ℤ)
  values [] scope = give []
  values (e ∷ es) scope = value e scope >>= λ x. values es scope >>= λ xs. give (x ∷ xs)

-- ---- functions, each over those before it

abbrev pub Meaning : Type 0
Meaning = List ℤ → Counted (List ℤ)

-- there is no such function
abbrev pub nothing : Meaning
nothing args = give []

-- the first result of function number f
abbrev pub call : List Meaning → ℕ → List ℤ → Counted ℤ
call known f args = slice_index_or known f nothing args >>= λ xs. give (slice_index_or xs 0 (pos 0))

-- what the functions mean, where those before them are known
abbrev pub meanings : List Meaning → List Fun → List Meaning
meanings known [] = known
meanings known (f ∷ fs) = meanings (known ++ values (call known) f.results ∷ []) fs

-- what function number f means at its arguments
abbrev pub mean : List Fun → ℕ → List ℤ → Counted (List ℤ)
mean funs f = slice_index_or (meanings [] funs) f nothing

-- ---- the limit

-- how many parameters and results the function at a place has
abbrev pub width_of : (Fun → ℕ) → Option Fun → ℕ
width_of count None = 0
width_of count (Some f) = count f

abbrev pub params_of : List Fun → ℕ → ℕ
params_of funs at = width_of (λ f. length f.params) (slice_get funs at)

abbrev pub results_of : List Fun → ℕ → ℕ
results_of funs at = width_of (λ f. length f.results) (slice_get funs at)

-- the outcome where at most 10,000,000 nodes may be begun, of which `spent` were begun before
abbrev pub limited : {A : Type 0} → ℕ → Counted A → Result A EvalFault
limited spent m = if nat_lt MOST_BEGUN (spent + m.begun) then Err Steps else m.outcome

-- the answer of a whole evaluation: the cost, and the results in out
abbrev pub Answers : Counted (List ℤ) → Result ℕ EvalFault → List ℤ → Type 0
Answers m (Ok cost) out = (limited 0 m ≡ Ok out) × (cost ≡ m.begun)
Answers m (Err fault) out = limited 0 m ≡ Err fault
