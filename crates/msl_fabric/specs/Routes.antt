-- Blocks move in rounds: in each, a member moves one of its own.
use Rattle.std.specs.Prelude.{◌≡◌, ◌≢◌, ◌<◌, ℕ, ◌-◌, List, length}
use Rattle.msl_base.specs.Blocks.{begin, block_of}
use Rattle.msl_base.specs.Streams.{Record}
use Rattle.msl_fabric.specs.declared.routes.Route.{Route}
use Rattle.msl_fabric.specs.declared.routes.Way.{Way}
use Rattle.msl_fabric.specs.Moves.{block}
use Rattle.msl_fabric.specs.Targets.{target}

-- how many blocks a route is for, where block i goes, who has place i, and in which round its block moves
abbrev pub many : Route → ℕ
many r = length r.owners.now

abbrev pub goes : Route → ℕ → ℕ
goes r i = target r.targets (many r) i

abbrev pub owner : Route → ℕ → ℕ
owner r i = block_of (many r) r.members i

abbrev pub round : Route → ℕ → ℕ
round r i = i - begin (many r) r.members (owner r i)

-- the block that member m moves in round k
pub record IsWay (r : Route) (m k : ℕ) (w : Way) : Type 0 where
  pub here : w.from < many r
  pub mine : owner r w.from ≡ m
  pub turn : round r w.from ≡ k
  pub goes_to : w.to ≡ goes r w.from
  pub there : w.to < many r
  pub theirs : w.owner ≡ owner r w.to
  pub member : w.owner < r.members

-- it moves none in that round
abbrev pub IsNone : Route → ℕ → ℕ → Type 0
IsNone r m k = (i : ℕ) → i < many r → owner r i ≡ m → round r i ≢ k

-- each block stands where it goes
pub record Lands (r : Route) (blocks moved : List Record) : Type 0 where
  pub count : length moved ≡ length blocks
  pub lands : (i : ℕ) → i < length blocks → block moved (goes r i) ≡ block blocks i
