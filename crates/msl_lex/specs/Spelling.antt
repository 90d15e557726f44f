-- Names and numbers that a text can spell.
use Rattle.std.specs.Prelude.{◌≤◌, ℤ, unsigned_abs, List, [], ◌∷◌, length, IsTrue}
use Rattle.msl_lex.specs.Layout.{is_word}
use Rattle.msl_lex.specs.Lexemes.{Form, Lexeme, word, number, longest_name, greatest_number}

abbrev pub IsSpelt : Form → Type 0
IsSpelt (word w) = IsTrue (is_word w) × (length w ≤ longest_name)
IsSpelt (number n) = n ≤ greatest_number
IsSpelt _ = Unit {0}

abbrev pub AreSpelt : List Lexeme → Type 0
AreSpelt [] = Unit {0}
AreSpelt (t ∷ ts) = IsSpelt t.form × AreSpelt ts

-- a number of a text, or its negation
abbrev pub IsInteger : ℤ → Type 0
IsInteger z = unsigned_abs z ≤ greatest_number

abbrev pub AreIntegers : List ℤ → Type 0
AreIntegers [] = Unit {0}
AreIntegers (z ∷ zs) = IsInteger z × AreIntegers zs
