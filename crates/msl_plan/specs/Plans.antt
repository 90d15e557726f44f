-- Which members work on which stage of a script.
use Rattle.std.specs.Prelude.{◌≡◌, ◌<◌, ◌≤◌, ℕ, suc, zero, ◌+◌, List, [], ◌∷◌, ◌++◌, Result, Ok, Err}
use Rattle.msl_program.specs.Need.{need}
use Rattle.msl_program.specs.Script.{Script}
use Rattle.msl_program.specs.Stages.{farm, primitives_of}
use Rattle.msl_program.specs.declared.stage.Stage.{Stage, Row_of-Stage, end_of-Stage, more_of-Stage}
use Rattle.msl_program.specs.declared.stage.Stage.TheVariants.{Atomic, Filter, Data, DivCon, Bnb, Pipe'}
use Rattle.msl_plan.specs.declared.team.Team.{Team}
use Rattle.msl_plan.specs.declared.fault.PlanFault.{PlanFault}
use Rattle.msl_plan.specs.declared.fault.PlanFault.TheVariants.{Need, NoMemory}

-- where members work: the number of a stage, and how many members it takes
pub record Place : Type 0 where
  pub stage : ℕ
  pub count : ℕ

abbrev pub place : ℕ → ℕ → Place
place k n = record { stage = k; count = n }

-- so often, one after the other
abbrev pub repeated : ℕ → List Place → List Place
repeated zero ps = []
repeated (suc n) ps = ps ++ repeated n ps

abbrev mutual
  -- those of a stage whose first number is k: each worker of a farm has its own, under the same numbers
  pub places_of : ℕ → Stage → List Place
  places_of k (Atomic f) = place k 1 ∷ []
  places_of k (Filter i) = place k 1 ∷ []
  places_of k (Data i on) = place k on ∷ []
  places_of k (DivCon i on) = place k on ∷ []
  places_of k (Bnb i on) = place k on ∷ []
  places_of k (farm n st) = repeated n (places_of k st)
  places_of k (Pipe' _ sts) = places_in k sts

  pub places_in : {n : _} → ℕ → Row_of-Stage n → List Place
  places_in k end_of-Stage = []
  places_in k (more_of-Stage st sts) = places_of k st ++ places_in (k + primitives_of st) sts

-- a team for each place, from this member on, each behind the one before
abbrev pub laid : ℕ → List Place → List Team
laid first [] = []
laid first (p ∷ ps) = record { stage = p.stage; first = first; count = p.count } ∷ laid (first + p.count) ps

-- member 0 drives the ends, and is in no team
abbrev pub plan_of : Script → List Team
plan_of s = laid 1 (places_of 1 s.main)

-- the plan, or that the script needs more; memory may run out wherever there are enough
abbrev pub Plans : Script → ℕ → Result (List Team) PlanFault → Type 0
Plans s p (Ok teams) = (need s ≤ p) × (teams ≡ plan_of s)
Plans s p (Err (Need n have)) = (p < need s) × (n ≡ need s) × (have ≡ p)
Plans s p (Err NoMemory) = need s ≤ p
