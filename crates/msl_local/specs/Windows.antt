-- Windows of a matrix, each of which lies row by row.
use Rattle.std.specs.Prelude.{◌≡◌, ◌≤◌, ℕ, ◌+◌, ◌-◌, ◌*◌, ◌/◌, ◌%◌, ◌^◌, ℤ, pos, List, All, map, take}
use Rattle.std.specs.List.{flat_map, sum_by}
use Rattle.std.specs.Global.{Vec}
use Rattle.msl_lists.specs.Whole.{list_by}
use Rattle.msl_local.specs.declared.inputs.Window.{Window}
use Rattle.msl_local.specs.Parts.{lengths}

-- how many rows and columns it has, and how many places
abbrev pub tall : Window → ℕ
tall w = w.below - w.above

abbrev pub wide : Window → ℕ
wide w = w.behind - w.before

abbrev pub area : Window → ℕ
area w = tall w * wide w

-- where window m begins, of windows one after the other
abbrev pub begins : List Window → ℕ → ℕ
begins windows m = sum_by area (take m windows)

-- the row of each place, and its column
abbrev pub rows : List Window → List ℤ
rows windows = flat_map (λ w. list_by (area w) (λ k. pos (w.above + k / wide w))) windows

abbrev pub cols : List Window → List ℤ
cols windows = flat_map (λ w. list_by (area w) (λ k. pos (w.before + k % wide w))) windows

-- each part is a window
pub record AreFramed (windows : List Window) (parts : List (Vec ℤ)) : Type 0 where
  pub long : lengths parts ≡ map area windows
  pub rows : All (λ (w : Window). w.below ≤ 2 ^ 60) windows
  pub cols : All (λ (w : Window). w.behind ≤ 2 ^ 60) windows
