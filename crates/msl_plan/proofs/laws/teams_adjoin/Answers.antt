use Rattle.msl_plan.proofs.Members.{plan_adjoins, all_members}
use Rattle.msl_plan.proofs.Numbers.{are_filled}
use Rattle.msl_plan.proofs.laws.teams_adjoin.Goals as goal

pub returns-clause-whole : goal.returns-clause-whole
returns-clause-whole c = λ s main. plan_adjoins s (are_filled s main.sized)

pub returns-clause-all : goal.returns-clause-all
returns-clause-all c = all_members
