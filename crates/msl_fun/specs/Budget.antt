-- An evaluation that goes on after some nodes, against the limit: its answer, and how many nodes were begun by then.
use Rattle.std.specs.Prelude.{ℕ, ◌+◌, nat_lt, Bool, true, false, not, ℤ, pos, neg_ℤ, List, [], ◌∷◌, ◌++◌, Result, Ok, Err, if◌then◌else◌}
use Rattle.msl_base.specs.declared.limits.TheConstants.{MOST_BEGUN}
use Rattle.msl_fun.specs.declared.expr.BinOp.{BinOp}
use Rattle.msl_fun.specs.declared.expr.Expr.{Expr}
use Rattle.msl_fun.specs.declared.fault.EvalFault.{EvalFault}
use Rattle.msl_fun.specs.declared.fault.EvalFault.TheVariants.{Steps}
use Rattle.msl_fun.specs.declared.funs.Fun.{Fun}
use Rattle.msl_fun.specs.Meaning.{Counted, free, give, ◌>>=◌, value, values, call, meanings, both, checked, holds, truth, turns, turns_of}

abbrev pub ended : {A : Type 0} → Result A EvalFault → ℕ → Result (A × ℕ) EvalFault
ended (Ok x) n = Ok (x, n)
ended (Err fault) n = Err fault

unfoldable pub spend : {A : Type 0} → ℕ → Counted A → Result (A × ℕ) EvalFault
spend spent m = if nat_lt MOST_BEGUN (spent + m.begun) then Err Steps else ended m.outcome (spent + m.begun)

-- ---- what expressions mean that may call these functions

unfoldable pub value_over : List Fun → Expr → List ℤ → Counted ℤ
value_over known e scope = value (call (meanings [] known)) e scope

unfoldable pub values_over : List Fun → List Expr → List ℤ → Counted (List ℤ)
values_over known es scope = values (call (meanings [] known)) es scope

unfoldable pub call_over : List Fun → ℕ → List ℤ → Counted ℤ
call_over known f args = call (meanings [] known) f args

-- the parts of a node, one after the other
abbrev pub minus_over : List Fun → Expr → List ℤ → Counted ℤ
minus_over known a scope = value_over known a scope >>= λ x. free (checked (neg_ℤ x))

abbrev pub opposite_over : List Fun → Expr → List ℤ → Counted ℤ
opposite_over known a scope = value_over known a scope >>= λ x. give (truth (not (holds x)))

abbrev pub binary_over : List Fun → BinOp → Expr → Expr → List ℤ → Counted ℤ
binary_over known op a b scope = both op (value_over known a scope) (value_over known b scope)

abbrev pub branch_over : List Fun → Bool → Expr → Expr → List ℤ → Counted ℤ
branch_over known c a b scope = elim c [ true ↦ value_over known a scope | false ↦ value_over known b scope ]

abbrev pub choice_over : List Fun → Expr → Expr → Expr → List ℤ → Counted ℤ
choice_over known c a b scope = value_over known c scope >>= λ x. branch_over known (holds x) a b scope

abbrev pub binding_over : List Fun → Expr → Expr → List ℤ → Counted ℤ
binding_over known a b scope = value_over known a scope >>= λ x. value_over known b (scope ++ x ∷ [])

abbrev pub turns_over : List Fun → Expr → List ℤ → ℕ → ℕ → ℤ → Counted ℤ
turns_over known e scope n i first = turns n (λ i a. value_over known e (scope ++ pos i ∷ a ∷ [])) i first

abbrev pub looping_over : List Fun → Expr → Expr → Expr → List ℤ → Counted ℤ
looping_over known n s e scope =
    value_over known n scope >>= λ count. value_over known s scope >>= λ first. turns_over known e scope (turns_of count) 0 first

abbrev pub calling_over : List Fun → ℕ → List Expr → List ℤ → Counted ℤ
calling_over known f args scope = values_over known args scope >>= call_over known f

-- the call, where the values of the first arguments are there
abbrev pub rest_over : List Fun → ℕ → List ℤ → List Expr → List ℤ → Counted ℤ
rest_over known f front es scope = values_over known es scope >>= λ xs. call_over known f (front ++ xs)
