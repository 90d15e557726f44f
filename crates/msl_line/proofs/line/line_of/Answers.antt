use Rattle.std.proofs.Common.{◌++◌, subst, sym, ap, ◌∙◌}
use Rattle.msl_program.specs.declared.stage.Stage.{Stage}
use Rattle.msl_stage.specs.Lines.{AreSteps, LineRuns}
use Rattle.msl_line.specs.Duties.{Does}
use Rattle.msl_line.specs.Lines.{IsLineOf}
use Rattle.msl_line.proofs.Runs.{Steps, line_can, line_means}
use Rattle.msl_line.proofs.line.line_of.Goals as goal

pub returns-clause-steps : goal.returns-clause-steps
returns-clause-steps g c =
    let s = c.args.script.now in
    let put = c.in_ok-put_steps.ensures in
    let all = put.1 ∙ ap (λ (ss : Steps). ss ++ put.0) c.new-line.ensures.items in
    let is = subst (λ (st : Stage). IsLineOf c.args.how s 1 st put.0) c.main.ensures.main put.2 in
    subst (AreSteps Does s.funs) (sym all) (line_can s c.args.how 1 s.main put.0 c.main.ensures.bounded.sized is)

pub returns-clause-runs : goal.returns-clause-runs
returns-clause-runs g c = λ X Y l.
    let s = c.args.script.now in
    let put = c.in_ok-put_steps.ensures in
    let all = put.1 ∙ ap (λ (ss : Steps). ss ++ put.0) c.new-line.ensures.items in
    let is = subst (λ (st : Stage). IsLineOf c.args.how s 1 st put.0) c.main.ensures.main put.2 in
    line_means s c.args.how 1 s.main put.0 X Y c.main.ensures.whole is (subst (λ (ss : Steps). LineRuns Does s.funs ss X Y) all l)
