use Rattle.std.proofs.Common.{refl}
use Rattle.msl_stage.specs.Lines.{StepRuns}
use Rattle.msl_stage.proofs.Steps.{goes_none}
use Rattle.msl_stage.proofs.WorkingLaws.{step_given_up, step_passed, ended_drops}
use Rattle.msl_stage.proofs.laws.any_step_works.Goals as goal

pub returns : goal.returns
returns g c = let o = g.O.OneToOne.one in let total = g.met.O.OneToOne.total in record {
  first = λ funs s. (refl, refl, goes_none (StepRuns o funs s));
  given_up = λ funs t s got sent is. step_given_up o total funs t s is got sent;
  passed = λ funs t s got sent is. step_passed o total funs t s is got sent;
  dropped = λ funs s got sent more. ended_drops (StepRuns o funs s) got more sent;
}
