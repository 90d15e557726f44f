-- The teams so far, with more behind them.
use Rattle.std.specs.Prelude.{ℕ, ◌+◌, List, [], ◌∷◌, ◌++◌}
use Rattle.msl_plan.specs.Plans.{Place, laid}
use Rattle.msl_plan.specs.declared.planner.Planner.{Planner}

abbrev pub members_in : List Place → ℕ
members_in [] = 0
members_in (p ∷ ps) = p.count + members_in ps

abbrev pub with_places : Planner → List Place → Planner
with_places t ps = record { teams = t.teams ++ laid t.next ps; next = t.next + members_in ps }
