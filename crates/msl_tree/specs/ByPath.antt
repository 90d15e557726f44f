-- Solved paths by their steps.
use Rattle.std.specs.Prelude.{◌≡◌, ◌≤◌, ℕ, List, [], ◌∷◌, length, All, Option, Some, None, if◌then◌else◌}
use Rattle.std.specs.Borrow.{Bor}
use Rattle.std.specs.HashMap.{HashMap, get_by}
use Rattle.std.specs.Option.{option_map}
use Rattle.std.specs.Str.{bytes_eq}
use Rattle.msl_base.specs.Streams.{Outcome}
use Rattle.msl_program.specs.Along.{most_levels}
use Rattle.msl_tree.specs.Lists.{Leaf}
use Rattle.msl_tree.specs.declared.lists.Entry.{Entry}

-- what the first entry of a path says, if there is one
abbrev pub found : List Leaf → List ℕ → Option Outcome
found [] q = None
found (l ∷ ls) q = if bytes_eq q l.path then Some l.value else found ls q

-- at each path the map has what the first entry of the path says
abbrev pub Finds : {S : Type 0} → HashMap (Bor (List ℕ)) (Bor Entry) S → List Leaf → Type 0
Finds m solved = (q : List ℕ) → option_map (λ e. e.now.value) (get_by (λ k. bytes_eq q k.now) m) ≡ found solved q

abbrev pub AreShort : List Leaf → Type 0
AreShort leaves = All (λ l. length l.path ≤ most_levels) leaves
