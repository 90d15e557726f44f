use Rattle.std.proofs.Common.{rules, ◌≡◌, ◌<◌, ◌++◌, [], ◌∷◌, List, Ok, length, pos, take, ℕ, sym, ap, ◌∙◌, subst, arith}
use Rattle.std.proofs.lemmas.List.{take_more_set}
use Rattle.std.proofs.lemmas.List.Elements.{All-same, All-push}
use Rattle.std.proofs.lemmas.Result.{err_from_is_err_and}
use Rattle.msl_base.specs.Streams.{Record, Outcome}
use Rattle.msl_division.specs.declared.division.Division.{Division}
use Rattle.msl_division.proofs.Recursion as recursion
use Rattle.msl_fun.specs.Meaning.{params_of}
use Rattle.msl_lists.specs.Whole.{each}
use Rattle.msl_local.specs.Outcomes.{Stops}
use Rattle.msl_program.specs.Calls.{run}
use Rattle.msl_stage.proofs.Filtering.{each_more, each_stops}
use Rattle.msl_dividing.proofs.dividing.divide.Goals as goal

pub returns-in_err-parts-clause-parts : goal.returns-in_err-parts-clause-parts
returns-in_err-parts-clause-parts c =
    let here = c.args.division.now in
    let j = c.loop-j.j in
    let f : ℕ → Outcome = λ i. run here.calls here.stage here.spec.now.divide (c.args.x.now ++ pos i ∷ []) in
    let out = err_from_is_err_and c.from_residual.result c.from_residual.ensures.1 in
    let halt : Stops (f j) c.part.new.why = subst (λ (s : Division). Stops (run s.calls s.stage s.spec.now.divide (c.args.x.now ++ pos j ∷ [])) c.part.new.why) c.loop-j.invariant.same c.in_err-parts.ensures.part in
    rw (out.1) (recursion.stops (f j) (each here.spec.now.parts f) c.part.new.why (λ e is. each_stops f j here.spec.now.parts (take j c.loop-j.parts) e (omega arith) c.loop-j.invariant.so_far is) halt)

pub loop-j-preserved : goal.loop-j-preserved
loop-j-preserved c =
    let here = c.args.division.now in
    let j = c.loop-j.j in
    let y = c.in_ok-parts.field-0 in
    let f : ℕ → Outcome = λ i. run here.calls here.stage here.spec.now.divide (c.args.x.now ++ pos i ∷ []) in
    let gives : f j ≡ Ok y = subst (λ (s : Division). run s.calls s.stage s.spec.now.divide (c.args.x.now ++ pos j ∷ []) ≡ Ok y) c.loop-j.invariant.same c.in_ok-parts.ensures.part in
    let within : j < length c.loop-j.parts = omega arith in
    let more = take_more_set c.loop-j.parts j y within in
    record {
      same = search rules;
      so_far = each_more f j (take j c.loop-j.parts) y c.loop-j.invariant.so_far gives ∙ ap (λ (xs : List Record). Ok xs) (sym more);
      wide = All-same (λ (x : Record). length x ≡ params_of here.calls here.spec.now.simple) _ _ more
          (All-push (λ (x : Record). length x ≡ params_of here.calls here.spec.now.simple) (take j c.loop-j.parts) y c.loop-j.invariant.wide (search rules));
    }
