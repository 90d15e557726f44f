-- The results of a function one after the other, and the answer of a whole evaluation.
use Rattle.std.proofs.Common.{◌≡◌, ℕ, ◌+◌, ◌≤◌, nat_lt, cond, ℤ, List, [], ◌∷◌, ◌++◌, Result, Ok, Err, refl, ap, sym, ◌∙◌, arith, append_assoc, append-nil}
use Rattle.std.proofs.lemmas.Bool.Decides.{nat_tests}
use Rattle.msl_fun.specs.declared.expr.Expr.{Expr}
use Rattle.msl_fun.specs.declared.fault.EvalFault.{EvalFault}
use Rattle.msl_fun.specs.declared.fault.EvalFault.TheVariants.{Steps}
use Rattle.msl_fun.specs.declared.funs.Fun.{Fun}
use Rattle.msl_fun.specs.Meaning.{Counted, counted, give, ◌>>=◌, after, limited, Answers}
use Rattle.msl_fun.specs.Budget.{ended, spend, value_over, values_over}
use Rattle.msl_fun.proofs.Spending.{spend-free}
use Rattle.msl_fun.proofs.Steps.{values_ok, values_err}

-- the values of some results, behind those that are there
abbrev pub behind_over : List Fun → List ℤ → List Expr → List ℤ → Counted (List ℤ)
behind_over known front es scope = values_over known es scope >>= λ xs. give (front ++ xs)

pub none_behind : (known : List Fun) (es : List Expr) (scope : List ℤ) (s : ℕ) → spend s (behind_over known [] es scope) ≡ spend s (values_over known es scope)
none_behind known es scope s = ap (spend s) (of_outcome (values_over known es scope).outcome (values_over known es scope).begun)
  where
    of_outcome : (r : Result (List ℤ) EvalFault) (n : ℕ) → after r n (λ xs. give ([] ++ xs)) ≡ counted r n
    of_outcome (Ok xs) n = let p : n + 0 ≡ n = omega arith in ap (counted (Ok xs)) p
    of_outcome (Err f) n = refl

pub result_ok : (known : List Fun) (front more : List ℤ) (e : Expr) (es all : List Expr) (scope : List ℤ) (s k : ℕ) (x : ℤ)
    → all ≡ e ∷ es → more ≡ front ++ x ∷ [] → Ok (x, k) ≡ spend s (value_over known e scope)
    → spend k (behind_over known more es scope) ≡ spend s (behind_over known front all scope)
result_ok known front more e es all scope s k x split longer first =
    ap (λ (xs : List ℤ). spend k (behind_over known xs es scope)) longer
    ∙ ap (λ (go : List ℤ → Counted (List ℤ)). spend k (values_over known es scope >>= go)) (λ i xs. give (append_assoc front (x ∷ []) xs i))
    ∙ values_ok known e es scope (λ xs. give (front ++ xs)) s k x first
    ∙ ap (λ (ds : List Expr). spend s (behind_over known front ds scope)) (sym split)

pub result_err : (known : List Fun) (front : List ℤ) (e : Expr) (es all : List Expr) (scope : List ℤ) (s : ℕ) (fault : EvalFault)
    → all ≡ e ∷ es → Err fault ≡ spend s (value_over known e scope)
    → Err fault ≡ spend s (behind_over known front all scope)
result_err known front e es all scope s fault split fails =
    values_err known e es scope (λ xs. give (front ++ xs)) s fault fails
    ∙ ap (λ (ds : List Expr). spend s (behind_over known front ds scope)) (sym split)

pub all_there : (known : List Fun) (front : List ℤ) (all : List Expr) (scope : List ℤ) (s : ℕ) → s ≤ 10000000 → all ≡ []
    → Ok (front, s) ≡ spend s (behind_over known front all scope)
unfolding values_over
all_there known front all scope s within none =
    spend-free s (Ok front) within
    ∙ ap (λ (xs : List ℤ). spend s (give xs)) (sym (append-nil front))
    ∙ ap (λ (ds : List Expr). spend s (behind_over known front ds scope)) (sym none)

-- ---- the answer

pub answer_ok : (m : Counted (List ℤ)) (n : ℕ) (out : List ℤ) → Ok (out, n) ≡ spend 0 m → Answers m (Ok n) out
unfolding spend
answer_ok m n out h = of_outcome m.outcome m.begun h
  where
    of_outcome : (r : Result (List ℤ) EvalFault) (k : ℕ) → Ok (out, n) ≡ cond (nat_lt 10000000 (0 + k)) (Err Steps) (ended r (0 + k)) → (limited 0 (counted r k) ≡ Ok out) × (n ≡ k)
    of_outcome (Ok xs) k h = (grind (arith, nat_tests), grind (arith, nat_tests))
    of_outcome (Err f) k h = (grind (arith, nat_tests), grind (arith, nat_tests))

pub answer_err : (m : Counted (List ℤ)) (fault : EvalFault) (out : List ℤ) → Err fault ≡ spend 0 m → Answers m (Err fault) out
unfolding spend
answer_err m fault out h = of_outcome m.outcome m.begun h
  where
    of_outcome : (r : Result (List ℤ) EvalFault) (k : ℕ) → Err fault ≡ cond (nat_lt 10000000 (0 + k)) (Err Steps) (ended r (0 + k)) → limited 0 (counted r k) ≡ Err fault
    of_outcome (Ok xs) k h = grind (arith, nat_tests)
    of_outcome (Err f) k h = grind (arith, nat_tests)
