-- Plans of a few stages.
use Rattle.std.specs.Prelude.{◌≡◌, ℕ, List, [], ◌∷◌}
use Rattle.msl_program.specs.Stages.{farm, pipe}
use Rattle.msl_program.specs.declared.stage.Stage.{Stage}
use Rattle.msl_program.specs.declared.stage.Stage.TheVariants.{Atomic, Data, DivCon}
use Rattle.msl_plan.specs.Plans.{places_of, laid}
use Rattle.msl_plan.specs.declared.team.Team.{Team}

abbrev pub team : ℕ → ℕ → ℕ → Team
team k first n = record { stage = k; first = first; count = n }

-- the teams of a stage that is the main one
abbrev pub HasTeams : Stage → List Team → Type 0
HasTeams st ts = laid 1 (places_of 1 st) ≡ ts

-- farm 2 { divcon on 3 }
abbrev pub divided : Stage
divided = farm 2 (DivCon 0 3)

abbrev pub divided_teams : List Team
divided_teams = team 1 1 3 ∷ team 1 4 3 ∷ []

-- pipe { atomic; farm 2 { atomic }; data on 2 }
abbrev pub piped : Stage
piped = pipe (Atomic 0 ∷ farm 2 (Atomic 0) ∷ Data 0 2 ∷ [])

abbrev pub piped_teams : List Team
piped_teams = team 1 1 1 ∷ team 2 2 1 ∷ team 2 3 1 ∷ team 3 4 2 ∷ []

-- farm 2 { pipe { atomic; data on 2 } }
abbrev pub farmed : Stage
farmed = farm 2 (pipe (Atomic 0 ∷ Data 0 2 ∷ []))

abbrev pub farmed_teams : List Team
farmed_teams = team 1 1 1 ∷ team 2 2 2 ∷ team 1 4 1 ∷ team 2 5 2 ∷ []
