use Rattle.std.proofs.Common.{rules, ◌≡◌, ◌<◌, length, true, false, Ok, ap, ◌∙◌, subst, arith}
use Rattle.std.proofs.lemmas.Result.{err_from_is_err_and}
use Rattle.msl_base.specs.Streams.{Record}
use Rattle.msl_dividing.proofs.Finding.{finds_halt}
use Rattle.msl_division.proofs.Recursion as recursion
use Rattle.msl_division.specs.Steps.{whether_simple}
use Rattle.msl_division.specs.declared.division.Division.{Division}
use Rattle.msl_local.specs.Outcomes.{Stops}
use Rattle.msl_program.specs.Calls.{run}
use Rattle.msl_program.specs.Divide.{parts_of}
use Rattle.msl_dividing.proofs.dividing.solve_or_divide.Goals as goal

pub returns-in_err-is_simple-clause-found : goal.returns-in_err-is_simple-clause-found
returns-in_err-is_simple-clause-found c =
    let here = c.args.division.now in
    let at = c.args.at.now in
    let out = err_from_is_err_and c.from_residual-in_err-is_simple.result c.from_residual-in_err-is_simple.ensures.1 in
    rw (out.1)
    (finds_halt here.calls here.spec.now here.stage at.path at.node c.args.parts.now (whether_simple here.calls here.spec.now here.stage at.node) c.is_simple.new.why
    (recursion.test_faults here.calls here.spec.now here.stage at.path at.node)
    (subst (λ (x : Record). Stops (whether_simple here.calls here.spec.now here.stage x) c.is_simple.new.why) c.as_slice-x.ensures.numbers c.in_err-is_simple.ensures.simple))

pub returns-in_err-solve-clause-found : goal.returns-in_err-solve-clause-found
returns-in_err-solve-clause-found c =
    let here = c.args.division.now in
    let at = c.args.at.now in
    let test = subst (λ (x : Record). whether_simple here.calls here.spec.now here.stage x ≡ Ok c.in_ok-is_simple.field-0) c.as_slice-x.ensures.numbers c.in_ok-is_simple.ensures.simple in
    let simple : whether_simple here.calls here.spec.now here.stage at.node ≡ Ok true = test ∙ ap Ok c.if-branch.true in
    let out = err_from_is_err_and c.from_residual-in_err-solve.result c.from_residual-in_err-solve.ensures.1 in
    rw (out.1)
    (finds_halt here.calls here.spec.now here.stage at.path at.node c.args.parts.now (run here.calls here.stage here.spec.now.solve at.node) c.solve.new.why
    (λ e is. recursion.simple here.calls here.spec.now here.stage at.path at.node simple ∙ is)
    (subst (λ (x : Record). Stops (run here.calls here.stage here.spec.now.solve x) c.solve.new.why) c.as_slice-x.ensures.numbers
    (subst (λ (s : Division). Stops (run s.calls s.stage s.spec.now.solve c.as_slice-x.result.now) c.solve.new.why) c.is_simple.ensures.same c.in_err-solve.ensures.solved)))

pub returns-then-branch-clause-found : goal.returns-then-branch-clause-found
returns-then-branch-clause-found c =
    let here = c.args.division.now in
    let at = c.args.at.now in
    let y = c.in_ok-solve.field-0 in
    let test = subst (λ (x : Record). whether_simple here.calls here.spec.now here.stage x ≡ Ok c.in_ok-is_simple.field-0) c.as_slice-x.ensures.numbers c.in_ok-is_simple.ensures.simple in
    let simple : whether_simple here.calls here.spec.now here.stage at.node ≡ Ok true = test ∙ ap Ok c.if-branch.true in
    let solved = subst (λ (x : Record). run here.calls here.stage here.spec.now.solve x ≡ Ok y) c.as_slice-x.ensures.numbers
    (subst (λ (s : Division). run s.calls s.stage s.spec.now.solve c.as_slice-x.result.now ≡ Ok y) c.is_simple.ensures.same c.in_ok-solve.ensures.solved) in
    (recursion.simple here.calls here.spec.now here.stage at.path at.node simple ∙ solved, search rules)

pub returns-in_err-divide-clause-found : goal.returns-in_err-divide-clause-found
returns-in_err-divide-clause-found c =
    let here = c.args.division.now in
    let at = c.args.at.now in
    let test = subst (λ (x : Record). whether_simple here.calls here.spec.now here.stage x ≡ Ok c.in_ok-is_simple.field-0) c.as_slice-x.ensures.numbers c.in_ok-is_simple.ensures.simple in
    let other : whether_simple here.calls here.spec.now here.stage at.node ≡ Ok false = test ∙ ap Ok c.if-branch.false in
    let short : length at.path < 64 = omega (arith, ap length c.as_slice.ensures.steps, c.if-as_slice-division.false, c.requires.fits.cutoff) in
    let out = err_from_is_err_and c.from_residual-in_err-divide.result c.from_residual-in_err-divide.ensures.1 in
    rw (out.1)
    (finds_halt here.calls here.spec.now here.stage at.path at.node c.divide.new.parts (parts_of here.calls here.spec.now here.stage at.node) c.divide.new.why
    (recursion.parts_fault here.calls here.spec.now here.stage at.path at.node other short)
    (subst (λ (x : Record). Stops (parts_of here.calls here.spec.now here.stage x) c.divide.new.why) c.as_slice-x.ensures.numbers
    (subst (λ (s : Division). Stops (parts_of s.calls s.spec.now s.stage c.as_slice-x.result.now) c.divide.new.why) c.is_simple.ensures.same c.in_err-divide.ensures.parts)))
