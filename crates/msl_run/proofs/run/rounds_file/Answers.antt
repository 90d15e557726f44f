use Rattle.std.proofs.Common.{refl}
use Rattle.msl_program.specs.Runs.{RunsMain}
use Rattle.msl_stage.specs.Endings.{ends}
use Rattle.msl_run.specs.TopCall.{By, Runs}
use Rattle.msl_run.proofs.Scripts.{with_script, without_script}
use Rattle.msl_run.proofs.run.rounds_file.Goals as goal

pub returns-in-Ok-clause-ran : goal.returns-in-Ok-clause-ran
returns-in-Ok-clause-ran g c =
    let after = ends (g.S.Source.left c.args.src.now) (g.S.Source.left c.run_planned.new.src) (g.K.Sink.held c.args.out.now) (g.K.Sink.held c.run_planned.new.out) in
    with_script (By c.args.have (Runs RunsMain)) (g.L.Library.file c.args.lib.now c.args.name.now) c.in-Ok.script after c.run_planned.result c.in-Ok.ensures.script c.run_planned.ensures.ran

pub returns-in-Err-clause-ran : goal.returns-in-Err-clause-ran
returns-in-Err-clause-ran g c =
    without_script (By c.args.have (Runs RunsMain)) (g.L.Library.file c.args.lib.now c.args.name.now) (ends (g.S.Source.left c.args.src.now) (g.S.Source.left c.args.src.now) (g.K.Sink.held c.args.out.now) (g.K.Sink.held c.args.out.now)) c.in-Err.status c.in-Err.ensures.script (refl, refl)
