use Rattle.std.proofs.Common.{refl}
use Rattle.msl_stage.specs.Endings.{ends}
use Rattle.msl_run.specs.TopCall.{ByGiven, Checks}
use Rattle.msl_run.proofs.Scripts.{with_script, without_script}
use Rattle.msl_run.proofs.run.check_file.Goals as goal

pub returns-in-Ok-clause-checked : goal.returns-in-Ok-clause-checked
returns-in-Ok-clause-checked g c left =
    with_script (ByGiven c.args.have Checks) (g.L.Library.file c.args.lib.now c.args.name.now) c.in-Ok.script (ends left left (g.K.Sink.held c.args.out.now) (g.K.Sink.held c.check_given.new.out)) c.check_given.result c.in-Ok.ensures.script (c.check_given.ensures.checked left)

pub returns-in-Err-clause-checked : goal.returns-in-Err-clause-checked
returns-in-Err-clause-checked g c left =
    without_script (ByGiven c.args.have Checks) (g.L.Library.file c.args.lib.now c.args.name.now) (ends left left (g.K.Sink.held c.args.out.now) (g.K.Sink.held c.args.out.now)) c.in-Err.status c.in-Err.ensures.script (refl, refl)
