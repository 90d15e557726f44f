use Rattle.std.proofs.Common.{List, refl}
use Rattle.msl_plan.specs.declared.team.Team.{Team}
use Rattle.msl_line.specs.declared.how.How.TheVariants.{Beside}
use Rattle.msl_program.specs.Need.{need}
use Rattle.msl_program.specs.Runs.{RunsMain}
use Rattle.msl_stage.specs.Endings.{ends}
use Rattle.msl_run.specs.TopCall.{Runs}
use Rattle.msl_run.proofs.Endings.{starved}
use Rattle.msl_run.proofs.Scripts.{enough, unplanned}
use Rattle.msl_run.proofs.run.run_planned.Goals as goal

pub returns-in-Ok-clause-ran : goal.returns-in-Ok-clause-ran
returns-in-Ok-clause-ran g c =
    let s = c.args.script.now in
    let after = ends (g.S.Source.left c.args.src.now) (g.S.Source.left c.run_script.new.src) (g.K.Sink.held c.args.out.now) (g.K.Sink.held c.run_script.new.out) in
    enough (need s) c.args.have (Runs RunsMain s) after c.run_script.result c.in-Ok.ensures c.run_script.ensures.ran

pub returns-in-Err-clause-ran : goal.returns-in-Err-clause-ran
returns-in-Err-clause-ran g c =
    let s = c.args.script.now in
    let left = g.S.Source.left c.args.src.now in
    let held = g.K.Sink.held c.args.out.now in
    unplanned (List Team) s c.args.have (Runs RunsMain s) (ends left left held held) c.in-Err.status c.in-Err.ensures (refl, refl) (starved (Beside c.args.rt) s c.main.ensures.whole left held)
