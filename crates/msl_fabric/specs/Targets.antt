-- Where blocks go, and who has their places.
use Rattle.std.specs.Prelude.{◌≡◌, ◌<◌, ℕ, ◌+◌, ◌%◌, List, length, slice_index_or}
use Rattle.msl_base.specs.Blocks.{block_of}
use Rattle.msl_fabric.specs.declared.routes.Targets.{Targets}
use Rattle.msl_fabric.specs.declared.routes.Targets.TheVariants.{Listed, Further}

-- where block i of n goes, and how many blocks have a target
abbrev pub target : Targets → ℕ → ℕ → ℕ
target (Listed to) n i = slice_index_or to.now i 0
target (Further by) n i = (i + by) % n

abbrev pub reach : Targets → ℕ → ℕ
reach (Listed to) n = length to.now
reach (Further by) n = n

-- of n blocks each has a target, and no two the same
pub record Permutes (n : ℕ) (targets : Targets) : Type 0 where
  pub long : reach targets n ≡ n
  pub within : (i : ℕ) → i < n → target targets n i < n
  pub apart : (i j : ℕ) → i < n → j < n → target targets n i ≡ target targets n j → i ≡ j

-- which of p members has each of n places
pub record AreOwners (n p : ℕ) (owners : List ℕ) : Type 0 where
  pub long : length owners ≡ n
  pub each : (i : ℕ) → i < n → slice_index_or owners i 0 ≡ block_of n p i
