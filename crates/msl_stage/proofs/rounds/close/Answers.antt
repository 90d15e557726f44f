use Rattle.std.proofs.Common.{[], refl, sym, subst}
use Rattle.msl_base.specs.declared.fault.End.{End}
use Rattle.msl_stage.specs.Feeding.{end_by}
use Rattle.msl_stage.specs.Lines.{LineRuns}
use Rattle.msl_stage.specs.Reading.{ClosedWith}
use Rattle.msl_stage.proofs.Ended.{closed_err}
use Rattle.msl_stage.proofs.rounds.close.Goals as goal

pub returns-in-Ok-clause-closed : goal.returns-in-Ok-clause-closed
returns-in-Ok-clause-closed g c = c.in-Ok.ensures.finished [] c.args.run.now.steps.items refl refl

pub returns-in-Err-clause-closed : goal.returns-in-Err-clause-closed
returns-in-Err-clause-closed g c =
    let R = LineRuns g.O.OneToOne.one c.args.run.now.funs.now c.args.run.now.steps.items in
    let h = g.K.Sink.held c.args.out.now in
    let l = g.K.Sink.held c.finish.new.out in
    subst (λ (e : End). ClosedWith R e h l) (sym c.end.ensures)
    (closed_err (Unit {0}) R (end_by c.in-Err.stop c.finish.new.self.why) h l (c.in-Err.ensures.finished [] c.args.run.now.steps.items refl refl))
