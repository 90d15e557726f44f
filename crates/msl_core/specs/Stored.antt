-- What is true of a node and a group as they are stored.
use Rattle.std.specs.Prelude.{◌≡◌, ℕ, ◌-◌, ◌*◌, ◌≤◌, List, Option, length, pos, neg_ℤ, ◌≤ℤ◌}
use Rattle.msl_base.specs.Covers as covers
use Rattle.msl_base.specs.Covers.{all_children}
use Rattle.msl_base.specs.declared.limits.TheConstants.{MOST_CHILDREN, MOST_MEMBERS}
use Rattle.msl_core.specs.declared.node.TheConstants.{MOST_SURPLUS}
use Rattle.msl_core.specs.Groups.{Path, Group, full, total}

-- how many paths are lent is kept as a number, and no split has too many children
pub record IsStored (lent_out : ℕ) (lent : List (Option Path)) (splits : List covers.Split) : Type 0 where
  pub out : lent_out ≡ total full lent
  pub few_children : length (all_children splits) ≤ MOST_CHILDREN * length splits

-- what the nodes that the token has left can add up to
abbrev pub reach : ℕ → ℕ
reach at = (MOST_MEMBERS - at) * MOST_SURPLUS

-- so the tally never leaves its type
pub record IsBounded (g : Group) : Type 0 where
  pub few : length g.nodes ≤ MOST_MEMBERS
  pub above : neg_ℤ (pos (reach g.at)) ≤ℤ g.tally
  pub below : g.tally ≤ℤ pos (reach g.at)
