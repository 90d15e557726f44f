use Rattle.msl_plan.proofs.Numbers.{of_stages}
use Rattle.msl_plan.proofs.laws.stages_have_teams.Goals as goal

pub returns : goal.returns
returns c = λ s main. of_stages s main.sized
