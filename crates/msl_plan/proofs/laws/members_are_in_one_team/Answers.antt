use Rattle.msl_program.specs.Need.{need}
use Rattle.msl_plan.specs.Plans.{plan_of}
use Rattle.msl_plan.proofs.Members.{plan_adjoins, in_one_team}
use Rattle.msl_plan.proofs.Numbers.{are_filled}
use Rattle.msl_plan.proofs.laws.members_are_in_one_team.Goals as goal

pub returns : goal.returns
returns c = λ s main. in_one_team (plan_of s) (need s) (plan_adjoins s (are_filled s main.sized))
