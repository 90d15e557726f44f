-- How the parts of a node go on, one after the other.
use Rattle.std.proofs.Common.{◌≡◌, ℕ, suc, ◌+◌, ◌-◌, ◌<◌, ◌≤◌, ℤ, pos, Bool, List, [], ◌∷◌, ◌++◌, length, take, drop, get_or, Option, Some, None, Result, Ok, Err, refl, ap, sym, ◌∙◌, arith, append_assoc, append-nil, zero-add, length-append}
use Rattle.std.proofs.lemmas.List.{take_at, drop_more}
use Rattle.msl_fun.specs.declared.expr.BinOp.{BinOp}
use Rattle.msl_fun.specs.declared.expr.Expr.{Expr}
use Rattle.msl_fun.specs.declared.fault.EvalFault.{EvalFault}
use Rattle.msl_fun.specs.declared.funs.Fun.{Fun}
use Rattle.msl_fun.specs.Meaning.{Counted, counted, give, free, ◌>>=◌, both, decision, operated, holds, turns_of, after}
use Rattle.msl_fun.specs.Budget.{ended, spend, value_over, values_over, call_over, branch_over, choice_over, looping_over, turns_over, rest_over}
use Rattle.msl_fun.proofs.Spending.{spend-free, spent_within, bind_ok, bind_err}

-- ---- two operands

abbrev second : BinOp → Counted ℤ → ℤ → Option ℤ → Counted ℤ
second op n a d = elim d [ Some x ↦ give x | None ↦ n >>= λ b. free (operated op a b) ]

module _ (op : BinOp) (s k : ℕ) (x : ℤ) (m n : Counted ℤ) (first : Ok (x, k) ≡ spend s m) where
  goes_on : (d : Option ℤ) → d ≡ decision op x → spend k (second op n x d) ≡ spend s (both op m n)
  goes_on d e = ap (λ (d : Option ℤ). spend k (second op n x d)) e ∙ bind_ok s k x m (λ a. second op n a (decision op a)) first

  pub both_decided : (y : ℤ) → Some y ≡ decision op x → Ok (y, k) ≡ spend s (both op m n)
  both_decided y e = spend-free k (Ok y) (spent_within s k x m first) ∙ goes_on (Some y) e

  pub both_err : (f : EvalFault) → None ≡ decision op x → Err f ≡ spend k n → Err f ≡ spend s (both op m n)
  both_err f e fails = bind_err k f n (λ b. free (operated op x b)) fails ∙ goes_on None e

  pub both_ok : (y : ℤ) (j : ℕ) (r : Result ℤ EvalFault) → None ≡ decision op x → Ok (y, j) ≡ spend k n → r ≡ operated op x y → ended r j ≡ spend s (both op m n)
  both_ok y j r e next is =
      ap (λ (q : Result ℤ EvalFault). ended q j) is
      ∙ spend-free j (operated op x y) (spent_within k j y n next)
      ∙ bind_ok k j y n (λ b. free (operated op x b)) next
      ∙ goes_on None e

-- ---- one operand

pub one_ok : (s k : ℕ) (x : ℤ) (m : Counted ℤ) (of : ℤ → Result ℤ EvalFault) (r : Result ℤ EvalFault) → Ok (x, k) ≡ spend s m → r ≡ of x → ended r k ≡ spend s (m >>= λ y. free (of y))
one_ok s k x m of r first is =
    ap (λ (q : Result ℤ EvalFault). ended q k) is
    ∙ spend-free k (of x) (spent_within s k x m first)
    ∙ bind_ok s k x m (λ y. free (of y)) first

-- ---- a choice

pub choice_ok : (known : List Fun) (c a b : Expr) (scope : List ℤ) (s k : ℕ) (x : ℤ) (h : Bool) → Ok (x, k) ≡ spend s (value_over known c scope) → h ≡ holds x
    → spend k (branch_over known h a b scope) ≡ spend s (choice_over known c a b scope)
choice_ok known c a b scope s k x h first e =
    ap (λ (h : Bool). spend k (branch_over known h a b scope)) e
    ∙ bind_ok s k x (value_over known c scope) (λ y. branch_over known (holds y) a b scope) first

-- ---- turns

pub loop_begins : (known : List Fun) (n s e : Expr) (scope sc : List ℤ) (spent j k : ℕ) (count last first : ℤ) (turns : ℕ)
    → Ok (count, j) ≡ spend spent (value_over known n scope) → turns ≡ turns_of count
    → Ok (last, k) ≡ spend j (value_over known s scope) → first ≡ last → sc ≡ scope
    → spend k (turns_over known e sc turns 0 first) ≡ spend spent (looping_over known n s e scope)
loop_begins known n s e scope sc spent j k count last first turns counts turns_are begins first_is same =
    ap (λ (ys : List ℤ). spend k (turns_over known e ys turns 0 first)) same
    ∙ ap (λ (m : ℕ). spend k (turns_over known e scope m 0 first)) turns_are
    ∙ ap (λ (a : ℤ). spend k (turns_over known e scope (turns_of count) 0 a)) first_is
    ∙ bind_ok j k last (value_over known s scope) (λ a. turns_over known e scope (turns_of count) 0 a) begins
    ∙ bind_ok spent j count (value_over known n scope) (λ m. value_over known s scope >>= λ a. turns_over known e scope (turns_of m) 0 a) counts

pub turn_ok : (known : List Fun) (e : Expr) (scope : List ℤ) (n i s k : ℕ) (a b : ℤ) → i < n
    → Ok (b, k) ≡ spend s (value_over known e (scope ++ pos i ∷ a ∷ []))
    → spend k (turns_over known e scope (n - (i + 1)) (i + 1) b) ≡ spend s (turns_over known e scope (n - i) i a)
turn_ok known e scope n i s k a b lt first =
    let more : suc (n - (i + 1)) ≡ n - i = omega arith in
    bind_ok s k b (value_over known e (scope ++ pos i ∷ a ∷ [])) (λ c. turns_over known e scope (n - (i + 1)) (i + 1) c) first
    ∙ ap (λ (m : ℕ). spend s (turns_over known e scope m i a)) more

pub turn_err : (known : List Fun) (e : Expr) (scope : List ℤ) (n i s : ℕ) (a : ℤ) (f : EvalFault) → i < n
    → Err f ≡ spend s (value_over known e (scope ++ pos i ∷ a ∷ []))
    → Err f ≡ spend s (turns_over known e scope (n - i) i a)
turn_err known e scope n i s a f lt fails =
    let more : suc (n - (i + 1)) ≡ n - i = omega arith in
    bind_err s f (value_over known e (scope ++ pos i ∷ a ∷ [])) (λ c. turns_over known e scope (n - (i + 1)) (i + 1) c) fails
    ∙ ap (λ (m : ℕ). spend s (turns_over known e scope m i a)) more

pub no_turn : (known : List Fun) (e : Expr) (scope : List ℤ) (n i s : ℕ) (a : ℤ) → n ≤ i → s ≤ 10000000
    → Ok (a, s) ≡ spend s (turns_over known e scope (n - i) i a)
no_turn known e scope n i s a le within =
    let none : 0 ≡ n - i = omega arith in
    spend-free s (Ok a) within ∙ ap (λ (m : ℕ). spend s (turns_over known e scope m i a)) none

-- ---- several expressions, and what is done with their values

-- the expression at a place, and those after it
pub split_at : (es : List Expr) (i : ℕ) (e : Expr) → i < length es → e ≡ get_or es i e → drop i es ≡ e ∷ drop (i + 1) es
split_at es i e lt is = drop_more es i e lt ∙ ap (λ (d : Expr). d ∷ drop (i + 1) es) (sym is)

pub values_ok : {B : Type 0} (known : List Fun) (e : Expr) (es : List Expr) (scope : List ℤ) (go : List ℤ → Counted B) (s k : ℕ) (x : ℤ)
    → Ok (x, k) ≡ spend s (value_over known e scope)
    → spend k (values_over known es scope >>= λ xs. go (x ∷ xs)) ≡ spend s (values_over known (e ∷ es) scope >>= go)
unfolding values_over value_over
values_ok {B = B} known e es scope go s k x first =
    bind_ok s k x (value_over known e scope) (λ y. values_over known es scope >>= λ xs. go (y ∷ xs)) first
    ∙ ap (spend s) (regroup (value_over known e scope).outcome (value_over known e scope).begun (values_over known es scope).outcome (values_over known es scope).begun)
  where
    regroup : (r : Result ℤ EvalFault) (m : ℕ) (q : Result (List ℤ) EvalFault) (n : ℕ) →
        after r m (λ y. after q n (λ xs. go (y ∷ xs)))
        ≡ (let t = after r m (λ y. after q n (λ xs. give (y ∷ xs))) in after t.outcome t.begun go)
    regroup (Ok y) m (Ok xs) n =
        let t = go (y ∷ xs) in
        let p : m + (n + t.begun) ≡ m + (n + 0) + t.begun = omega arith in
        ap (counted t.outcome) p
    regroup (Ok y) m (Err f) n = refl
    regroup (Err f) m q n = refl

pub values_err : {B : Type 0} (known : List Fun) (e : Expr) (es : List Expr) (scope : List ℤ) (go : List ℤ → Counted B) (s : ℕ) (f : EvalFault)
    → Err f ≡ spend s (value_over known e scope) → Err f ≡ spend s (values_over known (e ∷ es) scope >>= go)
unfolding values_over value_over
values_err known e es scope go s f fails =
    let first = bind_err s f (value_over known e scope) (λ y. values_over known es scope >>= λ xs. give (y ∷ xs)) fails in
    bind_err s f (values_over known (e ∷ es) scope) go first

-- ---- the arguments of a call

pub argument_ok : (known : List Fun) (f : ℕ) (front more : List ℤ) (e : Expr) (es all : List Expr) (scope : List ℤ) (s k : ℕ) (x : ℤ)
    → all ≡ e ∷ es → more ≡ front ++ x ∷ [] → Ok (x, k) ≡ spend s (value_over known e scope)
    → spend k (rest_over known f more es scope) ≡ spend s (rest_over known f front all scope)
argument_ok known f front more e es all scope s k x split longer first =
    ap (λ (xs : List ℤ). spend k (rest_over known f xs es scope)) longer
    ∙ ap (λ (go : List ℤ → Counted ℤ). spend k (values_over known es scope >>= go)) (λ i xs. call_over known f (append_assoc front (x ∷ []) xs i))
    ∙ values_ok known e es scope (λ xs. call_over known f (front ++ xs)) s k x first
    ∙ ap (λ (ds : List Expr). spend s (rest_over known f front ds scope)) (sym split)

pub argument_err : (known : List Fun) (f : ℕ) (front : List ℤ) (e : Expr) (es all : List Expr) (scope : List ℤ) (s : ℕ) (fault : EvalFault)
    → all ≡ e ∷ es → Err fault ≡ spend s (value_over known e scope)
    → Err fault ≡ spend s (rest_over known f front all scope)
argument_err known f front e es all scope s fault split fails =
    values_err known e es scope (λ xs. call_over known f (front ++ xs)) s fault fails
    ∙ ap (λ (ds : List Expr). spend s (rest_over known f front ds scope)) (sym split)

pub no_argument : (known : List Fun) (f : ℕ) (front : List ℤ) (all : List Expr) (scope : List ℤ) (s : ℕ)
    → all ≡ [] → spend s (call_over known f front) ≡ spend s (rest_over known f front all scope)
unfolding values_over
no_argument known f front all scope s none =
    ap (λ (xs : List ℤ). spend s (call_over known f xs)) (sym (append-nil front))
    ∙ ap (λ (n : ℕ). spend s (counted (call_over known f (front ++ [])).outcome n)) (sym (zero-add (call_over known f (front ++ [])).begun))
    ∙ ap (λ (ds : List Expr). spend s (rest_over known f front ds scope)) (sym none)

-- ---- scopes

pub one_left : (xs : List ℤ) (x : ℤ) → take (length (xs ++ x ∷ []) - 1) (xs ++ x ∷ []) ≡ xs
one_left xs x =
    let long : length xs ≡ length (xs ++ x ∷ []) - 1 = omega (arith, length-append xs (x ∷ [])) in
    take_at xs (x ∷ []) _ long

pub two_left : (xs : List ℤ) (x y : ℤ) → take (length (xs ++ x ∷ y ∷ []) - 2) (xs ++ x ∷ y ∷ []) ≡ xs
two_left xs x y =
    let long : length xs ≡ length (xs ++ x ∷ y ∷ []) - 2 = omega (arith, length-append xs (x ∷ y ∷ [])) in
    take_at xs (x ∷ y ∷ []) _ long
