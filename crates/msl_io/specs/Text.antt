-- The text of records.
use Rattle.std.specs.Prelude.{ℕ, ℤ, ◌≡◌, ◌<◌, List, [], ◌∷◌, ◌++◌, length, map, flat_map, Option}
use Rattle.std.specs.Fmt.{signed_decimal}
use Rattle.std.specs.List.{join_with_byte}
use Rattle.std.specs.Io.KnownBytes.{Appends}

-- a record's text: the numbers in decimal, one space between two, and LF; of the empty record LF alone
abbrev pub text_of : List ℤ → List ℕ
text_of numbers = join_with_byte 32 (map signed_decimal numbers) ++ 10 ∷ []

-- the records' texts one after the other
abbrev pub text : List (List ℤ) → List ℕ
text records = flat_map text_of records

-- known bytes grow by a front of a text, maybe by all of it
abbrev pub AppendsFront : Option (List ℕ) → Option (List ℕ) → List ℕ → Type 0
AppendsFront held now text = (front : List ℕ) × (back : List ℕ) × (text ≡ front ++ back) × Appends held now front

-- the same, and not by all of it
abbrev pub AppendsPart : Option (List ℕ) → Option (List ℕ) → List ℕ → Type 0
AppendsPart held now text =
    (front : List ℕ) × (back : List ℕ) × (text ≡ front ++ back) × (0 < length back) × Appends held now front
