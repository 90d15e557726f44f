use Rattle.std.proofs.Common.{rules, arith, ◌≡◌, ◌+◌, ◌-◌, ◌^◌, ◌<◌, ◌≤◌, ℕ, ℤ, pos, neg_ℤ, not, true, false, length, take, drop, get_or, List, [], ◌∷◌, ◌++◌, Some, Ok, to_z, of_z, w64, FitsSigned, ap, sym, ◌∙◌, subst, refl, append_assoc, length-append}
use Rattle.std.proofs.lemmas.Result.{err_from_is_err_and}
use Rattle.std.proofs.lemmas.Int.{to_z-of_z, to_z_pos}
use Rattle.std.proofs.lemmas.List.{length-take-le}
use Rattle.std.proofs.Math.ListN.{drop_of_length-le}
use Rattle.std.proofs.lemmas.Option.{slice_get-get_or}
use Rattle.msl_fun.specs.declared.expr.Expr.{Expr}
use Rattle.msl_fun.specs.declared.expr.Expr.TheVariants.{Lit, Slot, Neg, Not, Bin, If, Let, Loop, Call}
use Rattle.msl_fun.specs.declared.funs.Fun.{Fun}
use Rattle.msl_fun.specs.Meaning.{Counted, node, give, variable, checked, truth, holds, turns_of, decision}
use Rattle.msl_fun.specs.Budget.{spend, value_over, minus_over, opposite_over, binary_over, choice_over, binding_over, looping_over, calling_over, turns_over, rest_over}
use Rattle.msl_fun.specs.Evaluable.{IsEvaluable, AreEvaluable, size_of, size_of_all}
use Rattle.msl_fun.proofs.Spending.{spend-node, spend-full, spend-free, spent_within, bind_ok, bind_err}
use Rattle.msl_fun.proofs.Nodes.{value-Lit, value-Slot, value-Neg, value-Not, value-Bin, value-If, value-Let, value-Loop, value-Call, some_begun}
use Rattle.msl_fun.proofs.Functions.{called, called_within, few_arguments, only_one, call_is, results_evaluable, funs_before}
use Rattle.msl_fun.proofs.Sizes.{fits-Slot, fits-Neg, fits-Not, fits-Bin, fits-If, fits-Let, fits-Loop, fits-Call, size-Neg, size-Not, size-Bin, size-If, size-Let, size-Loop, size-Call, size_some, size_before, size_within, fits_more}
use Rattle.msl_fun.proofs.Steps.{split_at, both_decided, both_err, both_ok, one_ok, choice_ok, loop_begins, turn_ok, turn_err, no_turn, argument_ok, argument_err, no_argument, two_left}
use Rattle.msl_fun.proofs.eval.+value.Goals as goal

-- the same expression, and as many variables
same_fit : (known : List Fun) (n : ℕ) (e d : Expr) → d ≡ e → IsEvaluable known n e → IsEvaluable known n d
same_fit known n e d p h = subst (IsEvaluable known n) (sym p) h

long_fit : (known : List Fun) (xs ys : List ℤ) (e : Expr) → ys ≡ xs → IsEvaluable known (length xs) e → IsEvaluable known (length ys) e
long_fit known xs ys e p h = subst (λ (zs : List ℤ). IsEvaluable known (length zs) e) (sym p) h

same_value : (known : List Fun) (s : ℕ) (scope : List ℤ) (e d : Expr) → d ≡ e → spend s (value_over known d scope) ≡ spend s (value_over known e scope)
same_value known s scope e d p = ap (λ (a : Expr). spend s (value_over known a scope)) p

same_scope : (known : List Fun) (s : ℕ) (e : Expr) (xs ys : List ℤ) → ys ≡ xs → spend s (value_over known e ys) ≡ spend s (value_over known e xs)
same_scope known s e xs ys p = ap (λ (zs : List ℤ). spend s (value_over known e zs)) p

-- ---- one operand

pub minus-value-requires : goal.minus-value-requires
minus-value-requires t c = (omega (arith, c.decreases), (c.requires.known, c.requires.a))

pub minus-returns-in_err-value-clause-value : goal.minus-returns-in_err-value-clause-value
minus-returns-in_err-value-clause-value t c =
    let out = err_from_is_err_and c.from_residual.result c.from_residual.ensures.1 in
    rw (out.1, out.2) (bind_err c.args.spent.now c.in_err-value.field-0.0 (value_over c.args.known.now c.args.a.now c.args.scope.now) _ c.in_err-value.ensures.value)

pub minus-returns-clause-value : goal.minus-returns-clause-value
minus-returns-clause-value t c =
    let x = c.in_ok-value.field-0 in
    let fits : FitsSigned w64 c.in_ok-value.field-0 = search rules in
    one_ok c.args.spent.now c.value.new.spent x (value_over c.args.known.now c.args.a.now c.args.scope.now) (λ x. checked (neg_ℤ x)) c.negated.result
    c.in_ok-value.ensures.value
    (rw (to_z-of_z w64 x fits) at c.negated.ensures)

pub opposite-value-requires : goal.opposite-value-requires
opposite-value-requires t c = (omega (arith, c.decreases), (c.requires.known, c.requires.a))

pub opposite-returns-in_err-value-clause-value : goal.opposite-returns-in_err-value-clause-value
opposite-returns-in_err-value-clause-value t c =
    let out = err_from_is_err_and c.from_residual.result c.from_residual.ensures.1 in
    rw (out.1, out.2) (bind_err c.args.spent.now c.in_err-value.field-0.0 (value_over c.args.known.now c.args.a.now c.args.scope.now) _ c.in_err-value.ensures.value)

pub opposite-returns-clause-value : goal.opposite-returns-clause-value
opposite-returns-clause-value t c =
    let x = c.in_ok-value.field-0 in
    let fits : FitsSigned w64 c.in_ok-value.field-0 = search rules in
    let fits_y : FitsSigned w64 c.truth.result = search rules in
    let is : c.truth.result ≡ truth (not (holds x)) = c.truth.ensures ∙ ap (λ b. truth (not b)) (c.is_true.ensures ∙ ap holds (to_z-of_z w64 x fits)) in
    one_ok c.args.spent.now c.value.new.spent x (value_over c.args.known.now c.args.a.now c.args.scope.now) (λ x. Ok (truth (not (holds x)))) (Ok (to_z w64 (of_z w64 c.truth.result)))
    c.in_ok-value.ensures.value
    (ap (λ (y : ℤ). Ok y) (to_z-of_z w64 c.truth.result fits_y ∙ is))

-- ---- two operands

pub binary-returns-in_err-x-clause-value : goal.binary-returns-in_err-x-clause-value
binary-returns-in_err-x-clause-value t c =
    let out = err_from_is_err_and c.from_residual.result c.from_residual.ensures.1 in
    rw (out.1, out.2) (bind_err c.args.spent.now c.in_err-x.field-0.0 (value_over c.args.known.now c.args.a.now c.args.scope.now) _ c.in_err-x.ensures.value)

pub binary-value-requires-in-None : goal.binary-value-requires-in-None
binary-value-requires-in-None t c =
    (omega (arith, c.decreases, size_some c.args.a.now), (c.requires.known, long_fit _ c.args.scope.now _ _ c.in_ok-x.ensures.scope c.requires.b))

pub binary-returns-in_err-y-in-None-clause-value :
    goal.binary-returns-in_err-y-in-None-clause-value
binary-returns-in_err-y-in-None-clause-value t c =
    let known = c.args.known.now in
    let scope = c.args.scope.now in
    let fits : FitsSigned w64 c.in_ok-x.x = search rules in
    let out = err_from_is_err_and c.from_residual-in_err-y-in-None.result c.from_residual-in_err-y-in-None.ensures.1 in
    rw (out.1, out.2)
    (both_err c.args.op c.args.spent.now c.value.new.spent c.in_ok-x.x (value_over known c.args.a.now scope) (value_over known c.args.b.now scope) c.in_ok-x.ensures.value c.in_err-y-in-None.field-0.0
    (c.in-None.ensures ∙ ap (λ x. decision c.args.op x) (to_z-of_z w64 c.in_ok-x.x fits))
    (c.in_err-y-in-None.ensures.value ∙ same_scope known _ c.args.b.now scope _ c.in_ok-x.ensures.scope))

pub binary-returns-in-Some-clause-value : goal.binary-returns-in-Some-clause-value
binary-returns-in-Some-clause-value t c =
    let known = c.args.known.now in
    let scope = c.args.scope.now in
    let fits : FitsSigned w64 c.in_ok-x.x = search rules in
    let fits_y : FitsSigned w64 c.in-Some.y = search rules in
    ap (λ y. Ok (y, c.value.new.spent)) (to_z-of_z w64 c.in-Some.y fits_y)
    ∙ both_decided c.args.op c.args.spent.now c.value.new.spent c.in_ok-x.x (value_over known c.args.a.now scope) (value_over known c.args.b.now scope) c.in_ok-x.ensures.value c.in-Some.y
    (c.in-Some.ensures ∙ ap (λ x. decision c.args.op x) (to_z-of_z w64 c.in_ok-x.x fits))

pub binary-returns-in_ok-y-in-None-clause-value : goal.binary-returns-in_ok-y-in-None-clause-value
binary-returns-in_ok-y-in-None-clause-value t c =
    let known = c.args.known.now in
    let scope = c.args.scope.now in
    let fits : FitsSigned w64 c.in_ok-x.x = search rules in
    let fits_y : FitsSigned w64 c.in_ok-y-in-None.y = search rules in
    let x_is = to_z-of_z w64 c.in_ok-x.x fits in
    both_ok c.args.op c.args.spent.now c.value.new.spent c.in_ok-x.x (value_over known c.args.a.now scope) (value_over known c.args.b.now scope) c.in_ok-x.ensures.value c.in_ok-y-in-None.y c.value-in-None.new.spent c.operate.result
    (c.in-None.ensures ∙ ap (λ x. decision c.args.op x) x_is)
    (c.in_ok-y-in-None.ensures.value ∙ same_scope known _ c.args.b.now scope _ c.in_ok-x.ensures.scope)
    (rw (x_is, to_z-of_z w64 c.in_ok-y-in-None.y fits_y) at c.operate.ensures)

pub binary-value-requires : goal.binary-value-requires
binary-value-requires t c = (omega (arith, c.decreases, size_some c.args.b.now), (c.requires.known, c.requires.a))

-- ---- a choice

pub choice-value-requires : goal.choice-value-requires
choice-value-requires t c = (omega (arith, c.decreases, size_some c.args.a.now), (c.requires.known, c.requires.c))

pub choice-returns-in_err-value-clause-value : goal.choice-returns-in_err-value-clause-value
choice-returns-in_err-value-clause-value t c =
    let out = err_from_is_err_and c.from_residual.result c.from_residual.ensures.1 in
    rw (out.1, out.2) (bind_err c.args.spent.now c.in_err-value.field-0.0 (value_over c.args.known.now c.args.c.now c.args.scope.now) _ c.in_err-value.ensures.value)

pub choice-value-requires-then-is_true : goal.choice-value-requires-then-is_true
choice-value-requires-then-is_true t c =
    (omega (arith, c.decreases, size_some c.args.c.now, size_some c.args.b.now), (c.requires.known, long_fit _ c.args.scope.now _ _ c.in_ok-value.ensures.scope c.requires.a))

pub choice-value-requires-else-is_true : goal.choice-value-requires-else-is_true
choice-value-requires-else-is_true t c =
    (omega (arith, c.decreases, size_some c.args.c.now, size_some c.args.a.now), (c.requires.known, long_fit _ c.args.scope.now _ _ c.in_ok-value.ensures.scope c.requires.b))

pub choice-returns-then-is_true-clause-value : goal.choice-returns-then-is_true-clause-value
choice-returns-then-is_true-clause-value t c =
    let fits : FitsSigned w64 c.in_ok-value.field-0 = search rules in
    let is = sym c.if-is_true.true ∙ c.is_true.ensures ∙ ap holds (to_z-of_z w64 c.in_ok-value.field-0 fits) in
    c.value-then-is_true.ensures.value
    ∙ same_scope c.args.known.now _ c.args.a.now c.args.scope.now _ c.in_ok-value.ensures.scope
    ∙ choice_ok c.args.known.now c.args.c.now c.args.a.now c.args.b.now c.args.scope.now c.args.spent.now c.value.new.spent c.in_ok-value.field-0 true c.in_ok-value.ensures.value is

pub choice-returns-else-is_true-clause-value : goal.choice-returns-else-is_true-clause-value
choice-returns-else-is_true-clause-value t c =
    let fits : FitsSigned w64 c.in_ok-value.field-0 = search rules in
    let is = sym c.if-is_true.false ∙ c.is_true.ensures ∙ ap holds (to_z-of_z w64 c.in_ok-value.field-0 fits) in
    c.value-else-is_true.ensures.value
    ∙ same_scope c.args.known.now _ c.args.b.now c.args.scope.now _ c.in_ok-value.ensures.scope
    ∙ choice_ok c.args.known.now c.args.c.now c.args.a.now c.args.b.now c.args.scope.now c.args.spent.now c.value.new.spent c.in_ok-value.field-0 false c.in_ok-value.ensures.value is

-- ---- a binding

pub binding-value-requires : goal.binding-value-requires
binding-value-requires t c = (omega (arith, c.decreases, size_some c.args.b.now), (c.requires.known, c.requires.a))

pub binding-returns-in_err-x-clause-value : goal.binding-returns-in_err-x-clause-value
binding-returns-in_err-x-clause-value t c =
    let out = err_from_is_err_and c.from_residual.result c.from_residual.ensures.1 in
    rw (out.1, out.2) (bind_err c.args.spent.now c.in_err-x.field-0.0 (value_over c.args.known.now c.args.a.now c.args.scope.now) _ c.in_err-x.ensures.value)

-- the scope with one more variable
pushed : (old sc new : List ℤ) (x : ℤ) → FitsSigned w64 x → sc ≡ old → new ≡ sc ++ to_z w64 (of_z w64 x) ∷ [] → new ≡ old ++ x ∷ []
pushed old sc new x fits p q = q ∙ ap (λ (y : ℤ). sc ++ y ∷ []) (to_z-of_z w64 x fits) ∙ ap (λ (ys : List ℤ). ys ++ x ∷ []) p

pub binding-value-requires-2 : goal.binding-value-requires-2
binding-value-requires-2 t c =
    let fits : FitsSigned w64 c.in_ok-x.x = search rules in
    let old = c.args.scope.now in
    let more = pushed old c.value.new.scope c.push.new.self c.in_ok-x.x fits c.in_ok-x.ensures.scope c.push.ensures in
    let long : length c.push.new.self ≡ length old + 1 = ap (length {A = ℤ}) more ∙ length-append old (c.in_ok-x.x ∷ []) in
    (omega (arith, c.decreases, size_some c.args.a.now), (c.requires.known, subst (λ (n : ℕ). IsEvaluable c.args.known.now n c.args.b.now) (sym long) c.requires.b))

pub binding-returns-in_err-y-clause-value : goal.binding-returns-in_err-y-clause-value
binding-returns-in_err-y-clause-value t c =
    let known = c.args.known.now in
    let old = c.args.scope.now in
    let fits : FitsSigned w64 c.in_ok-x.x = search rules in
    let more = pushed old c.value.new.scope c.push.new.self c.in_ok-x.x fits c.in_ok-x.ensures.scope c.push.ensures in
    let out = err_from_is_err_and c.from_residual-in_err-y.result c.from_residual-in_err-y.ensures.1 in
    rw (out.1, out.2)
    (c.in_err-y.ensures.value ∙ same_scope known c.value.new.spent c.args.b.now (old ++ c.in_ok-x.x ∷ []) _ more
    ∙ bind_ok c.args.spent.now c.value.new.spent c.in_ok-x.x (value_over known c.args.a.now old) (λ x. value_over known c.args.b.now (old ++ x ∷ [])) c.in_ok-x.ensures.value)

pub binding-returns-clause-value : goal.binding-returns-clause-value
binding-returns-clause-value t c =
    let known = c.args.known.now in
    let old = c.args.scope.now in
    let fits : FitsSigned w64 c.in_ok-x.x = search rules in
    let fits_y : FitsSigned w64 c.in_ok-y.y = search rules in
    let more = pushed old c.value.new.scope c.push.new.self c.in_ok-x.x fits c.in_ok-x.ensures.scope c.push.ensures in
    ap (λ (y : ℤ). Ok (y, c.value-2.new.spent)) (to_z-of_z w64 c.in_ok-y.y fits_y)
    ∙ c.in_ok-y.ensures.value ∙ same_scope known c.value.new.spent c.args.b.now (old ++ c.in_ok-x.x ∷ []) _ more
    ∙ bind_ok c.args.spent.now c.value.new.spent c.in_ok-x.x (value_over known c.args.a.now old) (λ x. value_over known c.args.b.now (old ++ x ∷ [])) c.in_ok-x.ensures.value

-- ---- a loop

-- the scope with the two variables of a turn
two_pushed : (old sc one two : List ℤ) (i : ℕ) (a : ℤ) → i < 2 ^ 63 → sc ≡ old → one ≡ sc ++ to_z w64 i ∷ [] → two ≡ one ++ a ∷ [] → two ≡ old ++ pos i ∷ a ∷ []
two_pushed old sc one two i a below p q r =
    r ∙ ap (λ (ys : List ℤ). ys ++ a ∷ []) (q ∙ ap (λ (y : ℤ). sc ++ y ∷ []) (to_z_pos w64 i below) ∙ ap (λ (ys : List ℤ). ys ++ pos i ∷ []) p)
    ∙ append_assoc old (pos i ∷ []) (a ∷ [])

pub looping-value-requires : goal.looping-value-requires
looping-value-requires t c = (omega (arith, c.decreases, size_some c.args.s.now), (c.requires.known, c.requires.n))

pub looping-returns-in_err-value-clause-value : goal.looping-returns-in_err-value-clause-value
looping-returns-in_err-value-clause-value t c =
    let out = err_from_is_err_and c.from_residual.result c.from_residual.ensures.1 in
    rw (out.1, out.2) (bind_err c.args.spent.now c.in_err-value.field-0.0 (value_over c.args.known.now c.args.n.now c.args.scope.now) _ c.in_err-value.ensures.value)

pub looping-value-requires-2 : goal.looping-value-requires-2
looping-value-requires-2 t c =
    (omega (arith, c.decreases, size_some c.args.n.now, size_some c.args.e.now), (c.requires.known, long_fit _ c.args.scope.now _ _ c.in_ok-value.ensures.scope c.requires.s))

pub looping-returns-in_err-last-clause-value : goal.looping-returns-in_err-last-clause-value
looping-returns-in_err-last-clause-value t c =
    let known = c.args.known.now in
    let scope = c.args.scope.now in
    let out = err_from_is_err_and c.from_residual-in_err-last.result c.from_residual-in_err-last.ensures.1 in
    rw (out.1, out.2)
    (bind_err c.value.new.spent c.in_err-last.field-0.0 (value_over known c.args.s.now scope) (λ first. turns_over known c.args.e.now scope (turns_of c.in_ok-value.field-0) 0 first)
    (c.in_err-last.ensures.value ∙ same_scope known c.value.new.spent c.args.s.now scope _ c.in_ok-value.ensures.scope)
    ∙ bind_ok c.args.spent.now c.value.new.spent c.in_ok-value.field-0 (value_over known c.args.n.now scope) _ c.in_ok-value.ensures.value)

pub looping-loop-i-init : goal.looping-loop-i-init
looping-loop-i-init t c =
    let n = c.turn_count-count.result in
    let all : n - 0 ≡ n = omega arith in
    record {
      scope = refl;
      within = spent_within c.value.new.spent c.value-2.new.spent c.in_ok-last.last _ c.in_ok-last.ensures.value;
      spent = ap (λ (m : ℕ). spend c.value-2.new.spent (turns_over c.args.known.now c.args.e.now c.value-2.new.scope m 0 (to_z w64 (of_z w64 c.in_ok-last.last)))) all;
    }

pub looping-push-requires : goal.looping-push-requires
looping-push-requires t c =
    let same = ap (length {A = ℤ}) (c.loop-i.invariant.scope ∙ c.in_ok-last.ensures.scope ∙ c.in_ok-value.ensures.scope) in
    omega (arith, same, c.requires.room)

pub looping-push-requires-in-loop-i : goal.looping-push-requires-in-loop-i
looping-push-requires-in-loop-i t c =
    let same = ap (length {A = ℤ}) (c.loop-i.invariant.scope ∙ c.in_ok-last.ensures.scope ∙ c.in_ok-value.ensures.scope) in
    let more = ap (length {A = ℤ}) c.push.ensures ∙ length-append c.loop-i.scope (to_z w64 c.loop-i.i ∷ []) in
    omega (arith, same, more, c.requires.room)

pub looping-value-requires-in-loop-i : goal.looping-value-requires-in-loop-i
looping-value-requires-in-loop-i t c =
    let old = c.args.scope.now in
    let same = c.loop-i.invariant.scope ∙ c.in_ok-last.ensures.scope ∙ c.in_ok-value.ensures.scope in
    let below : c.loop-i.i < 2 ^ 63 = omega (arith, c.loop-i-test.true, c.turn_count-count.ensures.fits) in
    let more = two_pushed old c.loop-i.scope c.push.new.self c.push-in-loop-i.new.self c.loop-i.i _ below same c.push.ensures c.push-in-loop-i.ensures in
    let long : length c.push-in-loop-i.new.self ≡ length old + 2 = ap (length {A = ℤ}) more ∙ length-append old (pos c.loop-i.i ∷ to_z w64 c.loop-i.last-bits ∷ []) in
    (omega (arith, c.decreases, size_some c.args.n.now, size_some c.args.s.now), (c.requires.known, subst (λ (n : ℕ). IsEvaluable c.args.known.now n c.args.e.now) (sym long) c.requires.e))

pub looping-returns-in_err-last-2-clause-value : goal.looping-returns-in_err-last-2-clause-value
looping-returns-in_err-last-2-clause-value t c =
    let known = c.args.known.now in
    let e = c.args.e.now in
    let old = c.value-2.new.scope in
    let n = c.turn_count-count.result in
    let i = c.loop-i.i in
    let a = to_z w64 c.loop-i.last-bits in
    let fits : FitsSigned w64 c.in_ok-value.field-0 = search rules in
    let fits_first : FitsSigned w64 c.in_ok-last.last = search rules in
    let below : c.loop-i.i < 2 ^ 63 = omega (arith, c.loop-i-test.true, c.turn_count-count.ensures.fits) in
    let more = two_pushed old c.loop-i.scope c.push.new.self c.push-in-loop-i.new.self i a below c.loop-i.invariant.scope c.push.ensures c.push-in-loop-i.ensures in
    let out = err_from_is_err_and c.from_residual-in_err-last-2.result c.from_residual-in_err-last-2.ensures.1 in
    rw (out.1, out.2)
    (turn_err known e old n i c.loop-i.spent a c.in_err-last-2.field-0.0 c.loop-i-test.true (c.in_err-last-2.ensures.value ∙ same_scope known c.loop-i.spent e (old ++ pos i ∷ a ∷ []) _ more)
    ∙ c.loop-i.invariant.spent
    ∙ loop_begins known c.args.n.now c.args.s.now e c.args.scope.now old c.args.spent.now c.value.new.spent c.value-2.new.spent c.in_ok-value.field-0 c.in_ok-last.last _ n c.in_ok-value.ensures.value
    (c.turn_count-count.ensures.value ∙ ap turns_of (to_z-of_z w64 c.in_ok-value.field-0 fits))
    (c.in_ok-last.ensures.value ∙ same_scope known c.value.new.spent c.args.s.now c.args.scope.now _ c.in_ok-value.ensures.scope)
    (to_z-of_z w64 c.in_ok-last.last fits_first)
    (c.in_ok-last.ensures.scope ∙ c.in_ok-value.ensures.scope))

pub looping-loop-i-preserved : goal.looping-loop-i-preserved
looping-loop-i-preserved t c =
    let known = c.args.known.now in
    let e = c.args.e.now in
    let old = c.value-2.new.scope in
    let n = c.turn_count-count.result in
    let i = c.loop-i.i in
    let a = to_z w64 c.loop-i.last-bits in
    let b = c.in_ok-last-2.last in
    let fits : FitsSigned w64 c.in_ok-last-2.last = search rules in
    let below : c.loop-i.i < 2 ^ 63 = omega (arith, c.loop-i-test.true, c.turn_count-count.ensures.fits) in
    let more = two_pushed old c.loop-i.scope c.push.new.self c.push-in-loop-i.new.self i a below c.loop-i.invariant.scope c.push.ensures c.push-in-loop-i.ensures in
    record {
      scope = c.leave.ensures ∙ ap (λ (v : List ℤ). take (length v - 2) v) (c.in_ok-last-2.ensures.scope ∙ more) ∙ two_left old (pos i) a;
      within = spent_within c.loop-i.spent c.value-in-loop-i.new.spent b _ c.in_ok-last-2.ensures.value;
      spent =
          turn_ok known e old n i c.loop-i.spent c.value-in-loop-i.new.spent a (to_z w64 (of_z w64 b)) c.loop-i-test.true
          (ap (λ (y : ℤ). Ok (y, c.value-in-loop-i.new.spent)) (to_z-of_z w64 b fits) ∙ c.in_ok-last-2.ensures.value ∙ same_scope known c.loop-i.spent e (old ++ pos i ∷ a ∷ []) _ more)
          ∙ c.loop-i.invariant.spent;
    }

pub looping-returns-clause-value : goal.looping-returns-clause-value
looping-returns-clause-value t c =
    let known = c.args.known.now in
    let e = c.args.e.now in
    let old = c.value-2.new.scope in
    let n = c.turn_count-count.result in
    let fits : FitsSigned w64 c.in_ok-value.field-0 = search rules in
    let fits_first : FitsSigned w64 c.in_ok-last.last = search rules in
    no_turn known e old n c.loop-i.i c.loop-i.spent (to_z w64 c.loop-i.last-bits) c.loop-i-test.false c.loop-i.invariant.within
    ∙ c.loop-i.invariant.spent
    ∙ loop_begins known c.args.n.now c.args.s.now e c.args.scope.now old c.args.spent.now c.value.new.spent c.value-2.new.spent c.in_ok-value.field-0 c.in_ok-last.last _ n c.in_ok-value.ensures.value
    (c.turn_count-count.ensures.value ∙ ap turns_of (to_z-of_z w64 c.in_ok-value.field-0 fits))
    (c.in_ok-last.ensures.value ∙ same_scope known c.value.new.spent c.args.s.now c.args.scope.now _ c.in_ok-value.ensures.scope)
    (to_z-of_z w64 c.in_ok-last.last fits_first)
    (c.in_ok-last.ensures.scope ∙ c.in_ok-value.ensures.scope)

-- ---- a call

pub calling-loop-arg-init : goal.calling-loop-arg-init
calling-loop-arg-init t c =
    record {
      scope = refl;
      inner = ap (length {A = ℤ}) c.new-inner.ensures;
      fits = c.requires.args;
      spent = ap (λ (front : List ℤ). spend c.args.spent.now (rest_over c.args.known.now c.args.f front c.args.args.now c.args.scope.now)) c.new-inner.ensures;
    }

pub calling-value-requires : goal.calling-value-requires
calling-value-requires t c =
    let known = c.args.known.now in
    let n = length c.args.scope.now in
    let i = c.loop-arg.arg-index in
    let split = split_at c.args.args.now i c.arg-item.result c.loop-arg-test.true c.arg-item.is in
    let now = (fits_more known n c.arg-item.result (drop (i + 1) c.args.args.now) (subst (AreEvaluable known n) split c.loop-arg.invariant.fits)).0 in
    (omega (arith, c.decreases, size_within c.args.args.now i c.arg-item.result _ split), (c.requires.known, long_fit known c.args.scope.now _ _ c.loop-arg.invariant.scope now))

pub calling-returns-in_err-value-clause-value : goal.calling-returns-in_err-value-clause-value
calling-returns-in_err-value-clause-value t c =
    let known = c.args.known.now in
    let scope = c.args.scope.now in
    let i = c.loop-arg.arg-index in
    let split = split_at c.args.args.now i c.arg-item.result c.loop-arg-test.true c.arg-item.is in
    let out = err_from_is_err_and c.from_residual.result c.from_residual.ensures.1 in
    rw (out.1, out.2)
    (argument_err known c.args.f c.loop-arg.inner c.arg-item.result (drop (i + 1) c.args.args.now) (drop i c.args.args.now) scope c.loop-arg.spent c.in_err-value.field-0.0 split
    (c.in_err-value.ensures.value ∙ same_scope known c.loop-arg.spent c.arg-item.result scope _ c.loop-arg.invariant.scope)
    ∙ c.loop-arg.invariant.spent)

pub calling-push-requires : goal.calling-push-requires
calling-push-requires t c =
    omega (arith, c.loop-arg.invariant.inner, c.loop-arg-test.true, few_arguments c.args.known.now c.args.f _ c.requires.known c.requires.fits)

pub calling-loop-arg-preserved : goal.calling-loop-arg-preserved
calling-loop-arg-preserved t c =
    let known = c.args.known.now in
    let scope = c.args.scope.now in
    let i = c.loop-arg.arg-index in
    let x = c.in_ok-value.field-0 in
    let fits : FitsSigned w64 c.in_ok-value.field-0 = search rules in
    let more = pushed c.loop-arg.inner c.loop-arg.inner c.push.new.self x fits refl c.push.ensures in
    let split = split_at c.args.args.now i c.arg-item.result c.loop-arg-test.true c.arg-item.is in
    record {
      scope = c.in_ok-value.ensures.scope ∙ c.loop-arg.invariant.scope;
      inner = ap (length {A = ℤ}) more ∙ length-append c.loop-arg.inner (x ∷ []) ∙ ap (λ (k : ℕ). k + 1) c.loop-arg.invariant.inner;
      fits = (fits_more known (length scope) c.arg-item.result (drop (i + 1) c.args.args.now) (subst (AreEvaluable known (length scope)) split c.loop-arg.invariant.fits)).1;
      spent =
          argument_ok known c.args.f c.loop-arg.inner c.push.new.self c.arg-item.result (drop (i + 1) c.args.args.now) (drop i c.args.args.now) scope c.loop-arg.spent c.value.new.spent x split more
          (c.in_ok-value.ensures.value ∙ same_scope known c.loop-arg.spent c.arg-item.result scope _ c.loop-arg.invariant.scope)
          ∙ c.loop-arg.invariant.spent;
    }

pub calling-bounds-known-at : goal.calling-bounds-known-at
calling-bounds-known-at t c = called_within c.args.known.now c.args.f _ c.requires.fits

pub calling-slice_bounds-value-end : goal.calling-slice_bounds-value-end
calling-slice_bounds-value-end t c =
    let within = called_within c.args.known.now c.args.f _ c.requires.fits in
    sym (length-take-le c.args.f c.args.known.now (omega arith))

pub calling-bounds-results-0 : goal.calling-bounds-results-0
calling-bounds-results-0 t c =
    let within = called_within c.args.known.now c.args.f _ c.requires.fits in
    let g = get_or c.args.known.now c.args.f c.index-known-at.result in
    let found = slice_get-get_or c.args.known.now c.args.f c.index-known-at.result within in
    let widths = called c.args.known.now c.args.f _ g c.requires.fits found in
    let long : length c.as_slice-results.result.now ≡ 1 = ap (length {A = Expr}) c.as_slice-results.ensures ∙ widths.results in
    let some : 0 < length c.as_slice-results.result.now = omega arith in
    some

pub calling-value-requires-2 : goal.calling-value-requires-2
calling-value-requires-2 t c =
    let known = c.args.known.now in
    let within = called_within known c.args.f _ c.requires.fits in
    let g = get_or known c.args.f c.index-known-at.result in
    let found = slice_get-get_or known c.args.f c.index-known-at.result within in
    let widths = called known c.args.f _ g c.requires.fits found in
    let one = only_one c.as_slice-results.result.now c.index-results-0.result (ap (length {A = Expr}) c.as_slice-results.ensures ∙ widths.results) c.index-results-0.is in
    let is : g.results ≡ c.index-results-0.result ∷ [] = sym c.as_slice-results.ensures ∙ one in
    let long : length c.loop-arg.inner ≡ length g.params = omega (arith, c.loop-arg.invariant.inner, c.loop-arg-test.false, c.loop-arg.auto.arg-index-end, widths.params) in
    let all = results_evaluable known c.args.f g c.requires.known found in (
      omega (arith, c.decreases, size_before known c.args.f g c.index-results-0.result [] found is),
      (
        funs_before known c.args.f c.requires.known,
        (fits_more (take c.args.f known) _ c.index-results-0.result [] (subst (AreEvaluable (take c.args.f known) (length c.loop-arg.inner)) is (subst (λ (n : ℕ). AreEvaluable (take c.args.f known) n g.results) (sym long) all))).0,
      ),
    )

pub calling-returns-clause-value : goal.calling-returns-clause-value
calling-returns-clause-value t c =
    let known = c.args.known.now in
    let scope = c.args.scope.now in
    let within = called_within known c.args.f _ c.requires.fits in
    let g = get_or known c.args.f c.index-known-at.result in
    let found = slice_get-get_or known c.args.f c.index-known-at.result within in
    let widths = called known c.args.f _ g c.requires.fits found in
    let one = only_one c.as_slice-results.result.now c.index-results-0.result (ap (length {A = Expr}) c.as_slice-results.ensures ∙ widths.results) c.index-results-0.is in
    let is : g.results ≡ c.index-results-0.result ∷ [] = sym c.as_slice-results.ensures ∙ one in
    let none : drop c.loop-arg.arg-index c.args.args.now ≡ [] = drop_of_length-le c.args.args.now c.loop-arg-test.false in
    c.value-2.ensures.value
    ∙ ap (spend c.loop-arg.spent) (sym (call_is known c.args.f g c.index-results-0.result found is c.loop-arg.inner))
    ∙ no_argument known c.args.f c.loop-arg.inner (drop c.loop-arg.arg-index c.args.args.now) scope c.loop-arg.spent none
    ∙ c.loop-arg.invariant.spent

-- ---- a node

node_step : (known : List Fun) (scope : List ℤ) (e d : Expr) (m : Counted ℤ) (s : ℕ) → e ≡ d → value_over known d scope ≡ node m → spend (s + 1) m ≡ spend s (value_over known e scope)
node_step known scope e d m s is means = sym (spend-node s m) ∙ ap (spend s) (sym means) ∙ ap (λ (a : Expr). spend s (value_over known a scope)) (sym is)

pub value-returns-then-spent-ge-MOST_BEGUN-clause-value : goal.value-returns-then-spent-ge-MOST_BEGUN-clause-value
value-returns-then-spent-ge-MOST_BEGUN-clause-value t c =
    spend-full c.args.spent.now (value_over c.args.known.now c.args.e.now c.args.scope.now) c.if-spent-ge-MOST_BEGUN.true (some_begun c.args.known.now c.args.scope.now c.args.e.now)

pub value-get-requires : goal.value-get-requires
value-get-requires t c =
    fits-Slot c.args.known.now (length c.args.scope.now) c.in-Slot.at (subst (IsEvaluable c.args.known.now (length c.args.scope.now)) c.in-Slot.is c.requires.fits)

pub value-minus-requires : goal.value-minus-requires
value-minus-requires t c =
    let known = c.args.known.now in
    let n = length c.args.scope.now in
    let part = fits-Neg known n c.in-Neg.a (subst (IsEvaluable known n) c.in-Neg.is c.requires.fits) in
    (omega (arith, c.decreases, ap size_of c.in-Neg.is, size-Neg c.in-Neg.a, ap size_of c.get-in-Neg.ensures), (c.requires.known, same_fit known n _ _ c.get-in-Neg.ensures part))

pub value-returns-in-Neg-clause-value : goal.value-returns-in-Neg-clause-value
value-returns-in-Neg-clause-value t c =
    let known = c.args.known.now in
    let scope = c.args.scope.now in
    let s = c.args.spent.now in
    c.minus.ensures.value
    ∙ ap (λ (a : Expr). spend (s + 1) (minus_over known a scope)) c.get-in-Neg.ensures
    ∙ node_step known scope c.args.e.now (Neg c.in-Neg.a) _ s c.in-Neg.is (value-Neg known scope c.in-Neg.a)

pub value-opposite-requires : goal.value-opposite-requires
value-opposite-requires t c =
    let known = c.args.known.now in
    let n = length c.args.scope.now in
    let part = fits-Not known n c.in-Not.a (subst (IsEvaluable known n) c.in-Not.is c.requires.fits) in
    (omega (arith, c.decreases, ap size_of c.in-Not.is, size-Not c.in-Not.a, ap size_of c.get-in-Not.ensures), (c.requires.known, same_fit known n _ _ c.get-in-Not.ensures part))

pub value-returns-in-Not-clause-value : goal.value-returns-in-Not-clause-value
value-returns-in-Not-clause-value t c =
    let known = c.args.known.now in
    let scope = c.args.scope.now in
    let s = c.args.spent.now in
    c.opposite.ensures.value
    ∙ ap (λ (a : Expr). spend (s + 1) (opposite_over known a scope)) c.get-in-Not.ensures
    ∙ node_step known scope c.args.e.now (Not c.in-Not.a) _ s c.in-Not.is (value-Not known scope c.in-Not.a)

pub value-binary-requires : goal.value-binary-requires
value-binary-requires t c =
    let known = c.args.known.now in
    let n = length c.args.scope.now in
    let part = fits-Bin known n c.in-Bin.op c.in-Bin.a c.in-Bin.b (subst (IsEvaluable known n) c.in-Bin.is c.requires.fits) in (
      omega (arith, c.decreases, ap size_of c.in-Bin.is, size-Bin c.in-Bin.op c.in-Bin.a c.in-Bin.b, ap size_of c.get-in-Bin.ensures, ap size_of c.get-in-Bin-2.ensures),
      (c.requires.known, (same_fit known n _ _ c.get-in-Bin.ensures part.0, same_fit known n _ _ c.get-in-Bin-2.ensures part.1)),
    )

pub value-returns-in-Bin-clause-value : goal.value-returns-in-Bin-clause-value
value-returns-in-Bin-clause-value t c =
    let known = c.args.known.now in
    let scope = c.args.scope.now in
    let s = c.args.spent.now in
    c.binary.ensures.value
    ∙ ap (λ (a : Expr). spend (s + 1) (binary_over known c.in-Bin.op a c.get-in-Bin-2.result.now scope)) c.get-in-Bin.ensures
    ∙ ap (λ (b : Expr). spend (s + 1) (binary_over known c.in-Bin.op c.in-Bin.a b scope)) c.get-in-Bin-2.ensures
    ∙ node_step known scope c.args.e.now (Bin c.in-Bin.op c.in-Bin.a c.in-Bin.b) _ s c.in-Bin.is (value-Bin known scope c.in-Bin.op c.in-Bin.a c.in-Bin.b)

pub value-choice-requires : goal.value-choice-requires
value-choice-requires t c =
    let known = c.args.known.now in
    let n = length c.args.scope.now in
    let part = fits-If known n c.in-If.c c.in-If.a c.in-If.b (subst (IsEvaluable known n) c.in-If.is c.requires.fits) in (
      omega (arith, c.decreases, ap size_of c.in-If.is, size-If c.in-If.c c.in-If.a c.in-If.b, ap size_of c.get-in-If.ensures, ap size_of c.get-in-If-2.ensures, ap size_of c.get-in-If-3.ensures),
      (c.requires.known, (same_fit known n _ _ c.get-in-If.ensures part.0, (same_fit known n _ _ c.get-in-If-2.ensures part.1, same_fit known n _ _ c.get-in-If-3.ensures part.2))),
    )

pub value-returns-in-If-clause-value : goal.value-returns-in-If-clause-value
value-returns-in-If-clause-value t c =
    let known = c.args.known.now in
    let scope = c.args.scope.now in
    let s = c.args.spent.now in
    c.choice.ensures.value
    ∙ ap (λ (d : Expr). spend (s + 1) (choice_over known d c.get-in-If-2.result.now c.get-in-If-3.result.now scope)) c.get-in-If.ensures
    ∙ ap (λ (a : Expr). spend (s + 1) (choice_over known c.in-If.c a c.get-in-If-3.result.now scope)) c.get-in-If-2.ensures
    ∙ ap (λ (b : Expr). spend (s + 1) (choice_over known c.in-If.c c.in-If.a b scope)) c.get-in-If-3.ensures
    ∙ node_step known scope c.args.e.now (If c.in-If.c c.in-If.a c.in-If.b) _ s c.in-If.is (value-If known scope c.in-If.c c.in-If.a c.in-If.b)

pub value-binding-requires : goal.value-binding-requires
value-binding-requires t c =
    let known = c.args.known.now in
    let n = length c.args.scope.now in
    let part = fits-Let known n c.in-Let.a c.in-Let.b (subst (IsEvaluable known n) c.in-Let.is c.requires.fits) in (
      omega (arith, c.decreases, ap size_of c.in-Let.is, size-Let c.in-Let.a c.in-Let.b, ap size_of c.get-in-Let.ensures, ap size_of c.get-in-Let-2.ensures),
      (c.requires.known, (part.0, (same_fit known n _ _ c.get-in-Let.ensures part.1, same_fit known (n + 1) _ _ c.get-in-Let-2.ensures part.2))),
    )

pub value-returns-in-Let-clause-value : goal.value-returns-in-Let-clause-value
value-returns-in-Let-clause-value t c =
    let known = c.args.known.now in
    let scope = c.args.scope.now in
    let s = c.args.spent.now in
    c.binding.ensures.value
    ∙ ap (λ (a : Expr). spend (s + 1) (binding_over known a c.get-in-Let-2.result.now scope)) c.get-in-Let.ensures
    ∙ ap (λ (b : Expr). spend (s + 1) (binding_over known c.in-Let.a b scope)) c.get-in-Let-2.ensures
    ∙ node_step known scope c.args.e.now (Let c.in-Let.a c.in-Let.b) _ s c.in-Let.is (value-Let known scope c.in-Let.a c.in-Let.b)

pub value-looping-requires : goal.value-looping-requires
value-looping-requires t c =
    let known = c.args.known.now in
    let n = length c.args.scope.now in
    let part = fits-Loop known n c.in-Loop.n c.in-Loop.s c.in-Loop.e (subst (IsEvaluable known n) c.in-Loop.is c.requires.fits) in (
      omega (arith, c.decreases, ap size_of c.in-Loop.is, size-Loop c.in-Loop.n c.in-Loop.s c.in-Loop.e, ap size_of c.get-in-Loop.ensures, ap size_of c.get-in-Loop-2.ensures, ap size_of c.get-in-Loop-3.ensures),
      (c.requires.known, (part.0, (same_fit known n _ _ c.get-in-Loop.ensures part.1, (same_fit known n _ _ c.get-in-Loop-2.ensures part.2, same_fit known (n + 2) _ _ c.get-in-Loop-3.ensures part.3)))),
    )

pub value-returns-in-Loop-clause-value : goal.value-returns-in-Loop-clause-value
value-returns-in-Loop-clause-value t c =
    let known = c.args.known.now in
    let scope = c.args.scope.now in
    let s = c.args.spent.now in
    c.looping.ensures.value
    ∙ ap (λ (n : Expr). spend (s + 1) (looping_over known n c.get-in-Loop-2.result.now c.get-in-Loop-3.result.now scope)) c.get-in-Loop.ensures
    ∙ ap (λ (d : Expr). spend (s + 1) (looping_over known c.in-Loop.n d c.get-in-Loop-3.result.now scope)) c.get-in-Loop-2.ensures
    ∙ ap (λ (d : Expr). spend (s + 1) (looping_over known c.in-Loop.n c.in-Loop.s d scope)) c.get-in-Loop-3.ensures
    ∙ node_step known scope c.args.e.now (Loop c.in-Loop.n c.in-Loop.s c.in-Loop.e) _ s c.in-Loop.is (value-Loop known scope c.in-Loop.n c.in-Loop.s c.in-Loop.e)

pub value-calling-requires : goal.value-calling-requires
value-calling-requires t c =
    let known = c.args.known.now in
    let n = length c.args.scope.now in
    let part = fits-Call known n c.in-Call.f c.in-Call.args (subst (IsEvaluable known n) c.in-Call.is c.requires.fits) in (
      omega (arith, c.decreases, ap size_of c.in-Call.is, size-Call c.in-Call.f c.in-Call.args, ap size_of_all c.as_slice.ensures),
      (
        c.requires.known,
        (
          part.0 ∙ ap (λ (es : List Expr). Some (length es, 1)) (sym c.as_slice.ensures),
          subst (AreEvaluable known n) (sym c.as_slice.ensures) part.1,
        ),
      ),
    )

pub value-returns-in-Call-clause-value : goal.value-returns-in-Call-clause-value
value-returns-in-Call-clause-value t c =
    let known = c.args.known.now in
    let scope = c.args.scope.now in
    let s = c.args.spent.now in
    c.calling.ensures.value
    ∙ ap (λ (es : List Expr). spend (s + 1) (calling_over known c.in-Call.f es scope)) c.as_slice.ensures
    ∙ node_step known scope c.args.e.now (Call c.in-Call.f c.in-Call.args) _ s c.in-Call.is (value-Call known scope c.in-Call.f c.in-Call.args)

pub value-returns-in-Lit-clause-value : goal.value-returns-in-Lit-clause-value
value-returns-in-Lit-clause-value t c =
    let known = c.args.known.now in
    let scope = c.args.scope.now in
    let s = c.args.spent.now in
    let fits : FitsSigned w64 c.in-Lit.n = search rules in
    let room : s + 1 ≤ 10000000 = omega arith in
    ap (λ (y : ℤ). Ok (y, s + 1)) (to_z-of_z w64 c.in-Lit.n fits) ∙ spend-free (s + 1) (Ok c.in-Lit.n) room
    ∙ node_step known scope c.args.e.now (Lit c.in-Lit.n) (give c.in-Lit.n) s c.in-Lit.is (value-Lit known scope c.in-Lit.n)

pub value-returns-in-Slot-clause-value : goal.value-returns-in-Slot-clause-value
value-returns-in-Slot-clause-value t c =
    let known = c.args.known.now in
    let scope = c.args.scope.now in
    let s = c.args.spent.now in
    let fits : FitsSigned w64 c.get.result = search rules in
    let room : s + 1 ≤ 10000000 = omega arith in
    ap (λ (y : ℤ). Ok (y, s + 1)) (to_z-of_z w64 c.get.result fits ∙ c.get.ensures) ∙ spend-free (s + 1) (Ok (variable scope c.in-Slot.at)) room
    ∙ node_step known scope c.args.e.now (Slot c.in-Slot.at) (give (variable scope c.in-Slot.at)) s c.in-Slot.is (value-Slot known scope c.in-Slot.at)
