-- What holds of each plan of a script.
use Rattle.std.specs.Prelude.{◌≡◌, ◌<◌, ◌≤◌, ℕ, ◌+◌, Bool, ◌&&◌, ◌==◌, nat_le, nat_lt, List, [], ◌∷◌, All}
use Rattle.std.specs.List.{count_by, sum_by}
use Rattle.msl_program.specs.Need.{need}
use Rattle.msl_program.specs.ProgramPromise.{IsBetween}
use Rattle.msl_program.specs.Script.{Script}
use Rattle.msl_program.specs.ScriptPromise.{IsMain}
use Rattle.msl_program.specs.Stages.{primitives_of}
use Rattle.msl_plan.specs.Plans.{plan_of}
use Rattle.msl_plan.specs.declared.team.Team.{Team}

-- teams that aren't empty, side by side, from one member up to before another
abbrev pub Adjoin : ℕ → List Team → ℕ → Type 0
Adjoin first [] end = first ≡ end
Adjoin first (t ∷ ts) end = (t.first ≡ first) × (1 ≤ t.count) × Adjoin (first + t.count) ts end

-- the member is in the team
abbrev pub has : ℕ → Team → Bool
has m t = nat_le t.first m && nat_lt m (t.first + t.count)

abbrev pub is_of : ℕ → Team → Bool
is_of k t = t.stage == k

-- the same of the teams of a script

abbrev pub HasWholeTeams : Script → Type 0
HasWholeTeams s = IsMain s.main → Adjoin 1 (plan_of s) (need s)

-- no member that is needed is left out, but the one of the ends
abbrev pub HasAllMembers : Script → Type 0
HasAllMembers s = 1 + sum_by (λ t. t.count) (plan_of s) ≡ need s

pub record AreInOneTeam (teams : List Team) (end : ℕ) : Type 0 where
  pub one : (m : ℕ) → 1 ≤ m → m < end → count_by (has m) teams ≡ 1
  pub first : count_by (has 0) teams ≡ 0
  pub others : (m : ℕ) → end ≤ m → count_by (has m) teams ≡ 0

abbrev pub HasOneTeamEach : Script → Type 0
HasOneTeamEach s = IsMain s.main → AreInOneTeam (plan_of s) (need s)

pub record AreOfStages (teams : List Team) (stages : ℕ) : Type 0 where
  pub all : (k : ℕ) → IsBetween 1 stages k → 1 ≤ count_by (is_of k) teams
  pub only : All (λ t. IsBetween 1 stages t.stage) teams

abbrev pub HasStages : Script → Type 0
HasStages s = IsMain s.main → AreOfStages (plan_of s) (primitives_of s.main)
