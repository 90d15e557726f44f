-- The bytes of a script.
use Rattle.std.specs.Prelude.{ℕ, ◌+◌, ◌*◌, ◌-◌, Bool, not, ◌&&◌, ◌||◌, ◌==◌, nat_le, List, [], ◌∷◌, ◌++◌, map, fold, take, codes}
use Rattle.std.specs.List.{list_any}
use Rattle.std.specs.Str.{bytes_eq}

abbrev pub is_between : ℕ → ℕ → ℕ → Bool
is_between low high c = nat_le low c && nat_le c high

-- a space, a tab, CR or LF
abbrev pub is_blank : ℕ → Bool
is_blank c = c == 32 || c == 9 || c == 13 || c == 10

-- A to Z, a to z or _
abbrev pub is_letter : ℕ → Bool
is_letter c = is_between 65 90 c || is_between 97 122 c || c == 95

abbrev pub is_digit : ℕ → Bool
is_digit c = is_between 48 57 c

abbrev pub is_word_byte : ℕ → Bool
is_word_byte c = is_letter c || is_digit c

-- what a comment may hold: any byte but LF
abbrev pub is_comment_byte : ℕ → Bool
is_comment_byte c = not (c == 10)

abbrev pub long_signs : List (List ℕ)
long_signs = codes "==" ∷ codes "!=" ∷ codes "<=" ∷ codes ">=" ∷ []

abbrev pub starts_long_sign : List ℕ → Bool
starts_long_sign text = list_any (bytes_eq (take 2 text)) long_signs

abbrev pub short_signs : List ℕ
short_signs = codes "<>=+-*/%()[]{},;"

abbrev pub is_short_sign : ℕ → Bool
is_short_sign c = list_any (λ s. s == c) short_signs

abbrev pub signs : List (List ℕ)
signs = long_signs ++ map (λ c. c ∷ []) short_signs

-- the value of decimal digits, the highest first
abbrev pub value_of_digits : List ℕ → ℕ
value_of_digits digits = fold (λ n d. 10 * n + (d - 48)) 0 digits
