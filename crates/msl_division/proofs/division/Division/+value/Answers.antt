use Rattle.std.proofs.Common.{rules, ◌≡◌, ◌<◌, ◌++◌, [], ◌∷◌, List, Ok, length, flat_map, slice_index_or, take, ℕ, sym, ap, ◌∙◌, subst, arith, true, false}
use Rattle.std.proofs.lemmas.List.{get_or_read, get_or-set_other, take_more_set}
use Rattle.std.proofs.lemmas.List.Elements.{All-same, All-push}
use Rattle.std.proofs.lemmas.Result.{err_from_is_err_and}
use Rattle.msl_base.specs.Streams.{Record, Outcome}
use Rattle.msl_division.specs.declared.division.Division.{Division}
use Rattle.msl_division.specs.Steps.{whether_simple}
use Rattle.msl_division.proofs.Recursion as recursion
use Rattle.msl_fun.specs.Meaning.{results_of}
use Rattle.msl_lists.specs.Whole.{each}
use Rattle.msl_local.specs.Outcomes.{ComesTo, Stops}
use Rattle.msl_program.specs.Calls.{run}
use Rattle.msl_program.specs.Divide.{parts_of}
use Rattle.msl_stage.specs.Answers.{made_by}
use Rattle.msl_stage.proofs.Filtering.{each_more, each_stops}
use Rattle.msl_division.proofs.division.Division.+value.Goals as goal

pub conquer-returns-in_err-parts-clause-values : goal.conquer-returns-in_err-parts-clause-values
conquer-returns-in_err-parts-clause-values t c =
    let here = c.args.self.now in
    let j = c.loop-j.j in
    let f : ℕ → Outcome = recursion.value_of here.calls here.spec.now here.stage c.args.path c.args.parts.now in
    let out = err_from_is_err_and c.from_residual.result c.from_residual.ensures.1 in
    let same_part : slice_index_or c.loop-j.parts j [] ≡ slice_index_or c.args.parts.now j [] = c.loop-j.invariant.rest j (omega arith) in
    let here_is : c.as_slice.result.now ≡ slice_index_or c.loop-j.parts j [] = c.as_slice.ensures.numbers ∙ sym c.index-parts-j.is ∙ get_or_read c.loop-j.parts j c.index-parts-j.result (omega arith) c.index-parts-j.is [] in
    let path = recursion.inside c.push.result c.unwrap-path.result (c.args.path ++ j ∷ []) c.unwrap-path.ensures c.push.ensures.pushed in
    let at = recursion.value_at here c.loop-j.self c.args.path c.unwrap-path.result c.args.parts.now c.as_slice.result.now j c.loop-j.invariant.same path (here_is ∙ same_part) in
    let halt : Stops (f j) c.value.new.why = subst (λ (r : Outcome). Stops r c.value.new.why) at c.in_err-parts.ensures.value in
    rw (out.1) (recursion.stops (f j) (each here.spec.now.parts f) c.value.new.why (λ e is. each_stops f j here.spec.now.parts (take j c.loop-j.parts) e (omega arith) c.loop-j.invariant.so_far is) halt)

pub conquer-loop-j-preserved : goal.conquer-loop-j-preserved
conquer-loop-j-preserved t c =
    let here = c.args.self.now in
    let j = c.loop-j.j in
    let y = c.in_ok-parts.field-0 in
    let f : ℕ → Outcome = recursion.value_of here.calls here.spec.now here.stage c.args.path c.args.parts.now in
    let same_part : slice_index_or c.loop-j.parts j [] ≡ slice_index_or c.args.parts.now j [] = c.loop-j.invariant.rest j (omega arith) in
    let here_is : c.as_slice.result.now ≡ slice_index_or c.loop-j.parts j [] = c.as_slice.ensures.numbers ∙ sym c.index-parts-j.is ∙ get_or_read c.loop-j.parts j c.index-parts-j.result (omega arith) c.index-parts-j.is [] in
    let path = recursion.inside c.push.result c.unwrap-path.result (c.args.path ++ j ∷ []) c.unwrap-path.ensures c.push.ensures.pushed in
    let at = recursion.value_at here c.loop-j.self c.args.path c.unwrap-path.result c.args.parts.now c.as_slice.result.now j c.loop-j.invariant.same path (here_is ∙ same_part) in
    let gives : f j ≡ Ok y = sym at ∙ c.in_ok-parts.ensures.value in
    let within : j < length c.loop-j.parts = omega arith in
    let more = take_more_set c.loop-j.parts j y within in
    record {
      same = search rules;
      so_far = each_more f j (take j c.loop-j.parts) y c.loop-j.invariant.so_far gives ∙ ap (λ (xs : List Record). Ok xs) (sym more);
      rest = λ k lt. get_or-set_other c.loop-j.parts j k y [] (omega arith) ∙ c.loop-j.invariant.rest k (omega arith);
      long = All-same (λ (x : Record). length x ≡ results_of here.calls here.spec.now.solve) _ _ more
          (All-push (λ (x : Record). length x ≡ results_of here.calls here.spec.now.solve) (take j c.loop-j.parts) y c.loop-j.invariant.long (search rules));
    }

pub value-returns-in_err-is_simple-clause-value : goal.value-returns-in_err-is_simple-clause-value
value-returns-in_err-is_simple-clause-value t c =
    let here = c.args.self.now in
    let out = err_from_is_err_and c.from_residual.result c.from_residual.ensures.1 in
    rw (out.1) (recursion.stops (whether_simple here.calls here.spec.now here.stage c.args.x.now) _ c.is_simple.new.why (recursion.test_faults here.calls here.spec.now here.stage c.args.path c.args.x.now) c.in_err-is_simple.ensures.simple)

pub value-returns-then-branch-clause-value : goal.value-returns-then-branch-clause-value
value-returns-then-branch-clause-value t c =
    let here = c.args.self.now in
    let simple : whether_simple here.calls here.spec.now here.stage c.args.x.now ≡ Ok true = c.in_ok-is_simple.ensures.simple ∙ ap Ok c.if-branch.true in
    rw (recursion.simple here.calls here.spec.now here.stage c.args.path c.args.x.now simple)
    (subst (λ (s : Division). ComesTo (run s.calls s.stage s.spec.now.solve c.args.x.now) (made_by c.solve.result c.solve.new.why)) c.is_simple.ensures.same c.solve.ensures.solved)

pub value-returns-in_err-divide-clause-value : goal.value-returns-in_err-divide-clause-value
value-returns-in_err-divide-clause-value t c =
    let here = c.args.self.now in
    let other : whether_simple here.calls here.spec.now here.stage c.args.x.now ≡ Ok false = c.in_ok-is_simple.ensures.simple ∙ ap Ok c.if-branch.false in
    let short : length c.args.path < 64 = omega (arith, ap length c.as_slice.ensures.steps) in
    let out = err_from_is_err_and c.from_residual-in_err-divide.result c.from_residual-in_err-divide.ensures.1 in
    rw (out.1) (recursion.stops (parts_of here.calls here.spec.now here.stage c.args.x.now) _ c.divide.new.why (recursion.parts_fault here.calls here.spec.now here.stage c.args.path c.args.x.now other short)
    (subst (λ (s : Division). Stops (parts_of s.calls s.spec.now s.stage c.args.x.now) c.divide.new.why) c.is_simple.ensures.same c.in_err-divide.ensures.parts))

pub value-returns-in_err-conquer-clause-value : goal.value-returns-in_err-conquer-clause-value
value-returns-in_err-conquer-clause-value t c =
    let here = c.args.self.now in
    let parts = c.divide.new.parts in
    let other : whether_simple here.calls here.spec.now here.stage c.args.x.now ≡ Ok false = c.in_ok-is_simple.ensures.simple ∙ ap Ok c.if-branch.false in
    let short : length c.args.path < 64 = omega (arith, ap length c.as_slice.ensures.steps) in
    let are : parts_of here.calls here.spec.now here.stage c.args.x.now ≡ Ok parts = subst (λ (s : Division). parts_of s.calls s.spec.now s.stage c.args.x.now ≡ Ok parts) c.is_simple.ensures.same c.in_ok-divide.ensures.parts in
    let halt : Stops (each here.spec.now.parts (recursion.value_of here.calls here.spec.now here.stage c.args.path parts)) c.conquer.new.why =
    subst (λ (s : Division). Stops (each s.spec.now.parts (recursion.value_of s.calls s.spec.now s.stage c.args.path parts)) c.conquer.new.why) (c.divide.ensures.same ∙ c.is_simple.ensures.same) c.in_err-conquer.ensures.values in
    let out = err_from_is_err_and c.from_residual-in_err-conquer.result c.from_residual-in_err-conquer.ensures.1 in
    rw (out.1) (recursion.stops (each here.spec.now.parts (recursion.value_of here.calls here.spec.now here.stage c.args.path parts)) _ c.conquer.new.why
    (recursion.values_fault here.calls here.spec.now here.stage c.args.path c.args.x.now other short parts are) halt)

pub value-returns-clause-value : goal.value-returns-clause-value
value-returns-clause-value t c =
    let here = c.args.self.now in
    let parts = c.divide.new.parts in
    let other : whether_simple here.calls here.spec.now here.stage c.args.x.now ≡ Ok false = c.in_ok-is_simple.ensures.simple ∙ ap Ok c.if-branch.false in
    let short : length c.args.path < 64 = omega (arith, ap length c.as_slice.ensures.steps) in
    let are : parts_of here.calls here.spec.now here.stage c.args.x.now ≡ Ok parts = subst (λ (s : Division). parts_of s.calls s.spec.now s.stage c.args.x.now ≡ Ok parts) c.is_simple.ensures.same c.in_ok-divide.ensures.parts in
    let divided = c.divide.ensures.same ∙ c.is_simple.ensures.same in
    let values : each here.spec.now.parts (recursion.value_of here.calls here.spec.now here.stage c.args.path parts) ≡ Ok c.conquer.new.parts =
    subst (λ (s : Division). each s.spec.now.parts (recursion.value_of s.calls s.spec.now s.stage c.args.path parts) ≡ Ok c.conquer.new.parts) divided c.in_ok-conquer.ensures.values in
    rw (recursion.by_values here.calls here.spec.now here.stage c.args.path c.args.x.now other short parts are c.conquer.new.parts values)
    (subst (λ (s : Division). ComesTo (run s.calls s.stage s.spec.now.combine (flat_map (λ (r : Record). r) c.conquer.new.parts)) (made_by c.combine.result c.combine.new.why)) (c.conquer.ensures.same ∙ divided) c.combine.ensures.combined)
