use Rattle.msl_stage.specs.Lines.{StepRuns, LineRuns}
use Rattle.msl_stage.proofs.Steps.{step_total, then_goes}
use Rattle.msl_stage.proofs.WorkingLaws.{then_ended, then_ended_early, none_ended}
use Rattle.msl_stage.proofs.laws.steps_work_as_a_line.Goals as goal

pub returns : goal.returns
returns g c = let o = g.O.OneToOne.one in let total = g.met.O.OneToOne.total in record {
  going = λ funs t s ts ss got made sent first rest. then_goes (StepRuns o funs t) (StepRuns o funs s) (LineRuns o funs ts) (LineRuns o funs ss) got made first sent rest;
  ended_before = λ funs t s ss got made sent more is. then_ended_early (StepRuns o funs s) (LineRuns o funs ss) (StepRuns o funs t) got made more sent (step_total o total funs t is);
  ended = λ funs s ss. then_ended (StepRuns o funs s) (LineRuns o funs ss);
  none = λ funs. none_ended;
}
