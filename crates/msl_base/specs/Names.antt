-- Names, and their places among others.
use Rattle.std.specs.Prelude.{ℕ, Bool, true, not, ◌&&◌, List, [], ◌∷◌, Option, position}
use Rattle.std.specs.List.{list_any}
use Rattle.std.specs.Str.{bytes_eq}

abbrev pub Text : Type 0
Text = List ℕ

abbrev pub is_among : List Text → Text → Bool
is_among names n = list_any (bytes_eq n) names

abbrev pub are_distinct : List Text → Bool
are_distinct [] = true
are_distinct (n ∷ ns) = not (is_among ns n) && are_distinct ns

-- where the first of them stands that is this name
abbrev pub place_among : List Text → Text → Option ℕ
place_among names n = position (bytes_eq n) names
