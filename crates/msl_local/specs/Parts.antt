-- Lists that lie in parts, one for each member, one after the other.
use Rattle.std.specs.Prelude.{ℕ, ◌-◌, ℤ, List, length, map, take, drop}
use Rattle.std.specs.List.{flat_map}
use Rattle.std.specs.Global.{Vec}

-- the list
abbrev pub flat : List (Vec ℤ) → List ℤ
flat parts = flat_map (λ (v : Vec ℤ). v.items) parts

-- how long each part is
abbrev pub lengths : List (Vec ℤ) → List ℕ
lengths parts = map (λ (v : Vec ℤ). length v.items) parts

-- where a part begins
abbrev pub start : List (Vec ℤ) → ℕ → ℕ
start parts m = length (flat (take m parts))

-- the parts from this one up to that
abbrev pub between : List (Vec ℤ) → ℕ → ℕ → List (Vec ℤ)
between parts from to = take (to - from) (drop from parts)
