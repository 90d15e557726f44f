-- What work on one node of a tree comes to, and what is left when a pool has worked on all of them.
use Rattle.std.specs.Prelude.{◌≡◌, ◌<◌, ◌≤◌, ◌⊎◌, ℕ, List, ◌∷◌, ◌++◌, map, length, All}
use Rattle.msl_base.specs.Covers.{Split, split, children, Covers}
use Rattle.msl_base.specs.declared.answer.Halt.{Halt}
use Rattle.msl_base.specs.declared.answer.Halt.TheVariants.{NoMemory}
use Rattle.msl_base.specs.declared.limits.TheConstants.{MOST_CHILDREN, MOST_LEVELS}
use Rattle.msl_pool.specs.declared.search.Held.{Held}

-- what a search has done: the paths that it has split, and those that it has shut
abbrev pub Done : Type 1
Done = List Split → List (List ℕ) → Type 0

abbrev pub paths_of : {N : Type 0} → List (Held N) → List (List ℕ)
paths_of held = map (λ h. h.path) held

module _ {N : Type 0} (IsNode : List ℕ → N → Type 0) (old new : Done) (path : List ℕ) where
  -- the path is shut, and nothing more is held
  pub record Shuts (before after : List (Held N)) : Type 0 where
    pub held : after ≡ before
    pub has : (splits : List Split) (shut : List (List ℕ)) → old splits shut → new splits (path ∷ shut)

  -- the path is split, and its children are held, child 0 the newest
  pub record Splits (before after : List (Held N)) : Type 0 where
    pub count : ℕ
    pub more : List (Held N)
    pub deep : length path < MOST_LEVELS
    pub few : count ≤ MOST_CHILDREN
    pub held : after ≡ before ++ more
    pub paths : paths_of more ≡ children path count
    pub nodes : All (λ h. IsNode h.path h.node) more
    pub has : (splits : List Split) (shut : List (List ℕ)) → old splits shut → new (split path count ∷ splits) shut

  abbrev pub Works : List (Held N) → List (Held N) → Type 0
  Works before after = Shuts before after ⊎ Splits before after

-- nothing is left: what was split and what was shut cover the tree
abbrev pub IsWhole : Done → Type 0
IsWhole has = (splits : List Split) × (shut : List (List ℕ)) × Covers splits shut × has splits shut

-- want of memory, or the cause of the search
abbrev pub StopsBy : (Halt → Type 0) → Halt → Type 0
StopsBy stops h = (h ≡ NoMemory) ⊎ stops h
