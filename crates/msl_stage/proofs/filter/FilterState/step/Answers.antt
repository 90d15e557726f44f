use Rattle.std.proofs.Common.{◌≡◌, ◌==◌, IsTrue, ℕ, ◌+◌, length, refl, ap, ◌∙◌, arith}
use Rattle.std.proofs.lemmas.Bool.Decides.{nat_tests}
use Rattle.std.proofs.lemmas.Result.{err_from_is_err_and}
use Rattle.msl_fun.specs.Meaning.{params_of, results_of}
use Rattle.msl_program.specs.Filters.{stepped}
use Rattle.msl_stage.specs.Answers.{records_of}
use Rattle.msl_stage.specs.Outputs.{outputs}
use Rattle.msl_stage.proofs.Filtering.{both_done, first_fault, gives_stops, next_fault, refused}
use Rattle.msl_stage.proofs.filter.FilterState.step.Goals as goal

exactly : (a b : ℕ) → IsTrue (a == b) → a ≡ b
exactly a b h = grind (arith, nat_tests)

pub returns-in_err-outs-clause-step : goal.returns-in_err-outs-clause-step
returns-in_err-outs-clause-step c =
    let w = c.args.self.now in
    let f = w.spec.now in
    let funs = c.args.funs.now in
    let x = c.args.x.now in
    let calls = c.calls-calls.result in
    let wide : length w.state + length x ≡ params_of funs f.count = omega arith in
    let want = outputs calls.funs.now calls.stage f.count f.item c.extend.new.self in
    let out = err_from_is_err_and c.from_residual.result c.from_residual.ensures.1 in
    rw (out.1, out.2) (refused want (stepped funs f w.stage w.state x) w c.in_err-outs.field-0.0
    (first_fault funs f w.stage w.state x wide calls.funs.now calls.stage c.scope-scope.result c.extend.new.self c.calls-calls.ensures.funs c.calls-calls.ensures.stage c.scope-scope.ensures.state c.extend.ensures)
    (gives_stops want c.in_err-outs.field-0.0 c.in_err-outs.ensures.outs))

pub returns-in_err-self-clause-step : goal.returns-in_err-self-clause-step
returns-in_err-self-clause-step c =
    let w = c.args.self.now in
    let f = w.spec.now in
    let funs = c.args.funs.now in
    let x = c.args.x.now in
    let calls = c.calls-calls.result in
    let wide : length w.state + length x ≡ params_of funs f.count = omega arith in
    let out = err_from_is_err_and c.from_residual-in_err-self.result c.from_residual-in_err-self.ensures.1 in
    rw (out.1, out.2) (refused _ (stepped funs f w.stage w.state x) w c.in_err-self.field-0.0
    (next_fault funs f w.stage w.state x wide calls.funs.now calls.stage c.scope-scope.result c.extend.new.self c.calls-calls.ensures.funs c.calls-calls.ensures.stage c.scope-scope.ensures.state c.extend.ensures
    (records_of c.in_ok-outs.outs) c.in_ok-outs.ensures.outs c.outputs.new.scope c.in_ok-outs.ensures.scope)
    c.in_err-self.ensures.small)

pub returns-clause-step : goal.returns-clause-step
returns-clause-step c =
    let w = c.args.self.now in
    let f = w.spec.now in
    let funs = c.args.funs.now in
    let x = c.args.x.now in
    let calls = c.calls-calls.result in
    let wide : length w.state + length x ≡ params_of funs f.count = omega arith in
    let step = both_done funs f w.stage w.state x wide calls.funs.now calls.stage c.scope-scope.result c.extend.new.self c.calls-calls.ensures.funs c.calls-calls.ensures.stage c.scope-scope.ensures.state c.extend.ensures
    (records_of c.in_ok-outs.outs) c.in_ok-outs.ensures.outs c.outputs.new.scope c.in_ok-outs.ensures.scope c.in_ok-self.field-0 c.in_ok-self.ensures.small in
    (step, refl, refl)

pub returns-clause-long : goal.returns-clause-long
returns-clause-long c =
    let f = c.args.self.now.spec.now in
    let results : results_of c.args.funs.now f.next ≡ length f.state = exactly (results_of c.args.funs.now f.next) (length f.state) c.requires.fits.next.results in
    c.in_ok-self.ensures.long ∙ ap (λ fs. results_of fs f.next) c.calls-calls.ensures.funs ∙ results
