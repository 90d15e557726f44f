use Rattle.std.proofs.Common.{rules, arith, ◌≡◌, ◌+◌, ◌<◌, ℤ, List, length, take, drop, Ok, to_z, of_z, w64, FitsSigned, sym, ◌∙◌, ap, subst}
use Rattle.std.proofs.lemmas.Result.{err_from_is_err_and}
use Rattle.std.proofs.lemmas.Int.{to_z-of_z}
use Rattle.std.proofs.lemmas.List.{take_more_set, take_all}
use Rattle.std.proofs.Math.ListN.{drop_of_length-le}
use Rattle.msl_fun.specs.Budget.{spend, value_over, values_over}
use Rattle.msl_fun.specs.Evaluable.{IsEvaluable, AreEvaluable}
use Rattle.msl_fun.proofs.Spending.{spent_within}
use Rattle.msl_fun.proofs.Sizes.{fits_more}
use Rattle.msl_fun.proofs.Steps.{split_at}
use Rattle.msl_fun.proofs.Results.{result_ok, result_err, all_there, answer_ok, answer_err}
use Rattle.msl_fun.proofs.muscle.evaluate.Goals as goal

pub value-requires-clause-fits : goal.value-requires-clause-fits
value-requires-clause-fits c =
    let known = c.args.known.now in
    let i = c.loop-i.i in
    let n = length c.args.scope.now in
    let e = c.index-results-i.result in
    let split = split_at c.args.results.now i e c.loop-i-test.true c.index-results-i.is in
    subst (λ (xs : List ℤ). IsEvaluable known (length xs) e) (sym c.loop-i.invariant.scope)
    (fits_more known n e (drop (i + 1) c.args.results.now) (subst (AreEvaluable known n) split c.loop-i.invariant.fits)).0

pub returns-in_err-out : goal.returns-in_err-out
returns-in_err-out c =
    let known = c.args.known.now in
    let args = c.args.scope.now in
    let i = c.loop-i.i in
    let e = c.index-results-i.result in
    let f = c.in_err-out.field-0.0 in
    let split = split_at c.args.results.now i e c.loop-i-test.true c.index-results-i.is in
    let same = ap (λ (xs : List ℤ). spend c.loop-i.spent (value_over known e xs)) c.loop-i.invariant.scope in
    let all = result_err known (take i c.loop-i.out) e (drop (i + 1) c.args.results.now) (drop i c.args.results.now) args c.loop-i.spent f split (c.in_err-out.ensures.value ∙ same) ∙ c.loop-i.invariant.spent in
    let out = err_from_is_err_and c.from_residual.result c.from_residual.ensures.1 in
    rw (out.1, out.2) (record { result = answer_err (values_over known c.args.results.now args) f c.loop-i.out all; scope = tt })

pub loop-i-preserved : goal.loop-i-preserved
loop-i-preserved c =
    let known = c.args.known.now in
    let args = c.args.scope.now in
    let i = c.loop-i.i in
    let n = length c.args.scope.now in
    let e = c.index-results-i.result in
    let x = c.in_ok-out.field-0 in
    let y = to_z w64 (of_z w64 c.in_ok-out.field-0) in
    let fits : FitsSigned w64 c.in_ok-out.field-0 = search rules in
    let split = split_at c.args.results.now i e c.loop-i-test.true c.index-results-i.is in
    let same = ap (λ (xs : List ℤ). spend c.loop-i.spent (value_over known e xs)) c.loop-i.invariant.scope in
    let room : i < length c.loop-i.out = omega (arith, c.loop-i.auto.out, c.requires.out, c.loop-i-test.true) in
    record {
      scope = c.in_ok-out.ensures.scope ∙ c.loop-i.invariant.scope;
      within = spent_within c.loop-i.spent c.value.new.spent x _ c.in_ok-out.ensures.value;
      fits = (fits_more known n e (drop (i + 1) c.args.results.now) (subst (AreEvaluable known n) split c.loop-i.invariant.fits)).1;
      spent =
          result_ok known (take i c.loop-i.out) _ e (drop (i + 1) c.args.results.now) (drop i c.args.results.now) args c.loop-i.spent c.value.new.spent y split (take_more_set c.loop-i.out i y room)
          (ap (λ (z : ℤ). Ok (z, c.value.new.spent)) (to_z-of_z w64 x fits) ∙ c.in_ok-out.ensures.value ∙ same)
          ∙ c.loop-i.invariant.spent;
    }

pub returns : goal.returns
returns c =
    let known = c.args.known.now in
    let args = c.args.scope.now in
    let i = c.loop-i.i in
    let none = drop_of_length-le c.args.results.now c.loop-i-test.false in
    let all_out : take i c.loop-i.out ≡ c.loop-i.out = take_all i c.loop-i.out (omega (arith, c.loop-i.auto.out, c.requires.out, c.loop-i-test.false)) in
    record {
      result = answer_ok (values_over known c.args.results.now args) c.loop-i.spent c.loop-i.out
          (ap (λ (xs : List ℤ). Ok (xs, c.loop-i.spent)) (sym all_out)
          ∙ all_there known (take i c.loop-i.out) (drop i c.args.results.now) args c.loop-i.spent c.loop-i.invariant.within none
          ∙ c.loop-i.invariant.spent);
      scope = c.loop-i.invariant.scope;
    }
