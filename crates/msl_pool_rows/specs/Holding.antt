-- The children that a count of a complete tree holds.
use Rattle.std.specs.Prelude.{◌≡◌, ℕ, List, ◌++◌, length, All}
use Rattle.msl_base.specs.Covers.{children}
use Rattle.msl_pool.specs.declared.search.Held.{Held}
use Rattle.msl_pool.specs.Working.{paths_of}

-- of so many children of a path all are held, but for the first ones
pub record HoldsChildren (count left : ℕ) (path : List ℕ) (before after : List (Held ℕ)) : Type 0 where
  pub more : List (Held ℕ)
  pub held : after ≡ before ++ more
  pub paths : paths_of more ++ children path left ≡ children path count
  pub nodes : All (λ h. h.node ≡ length h.path) more
