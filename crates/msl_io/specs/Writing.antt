-- How far a text is written.
use Rattle.std.specs.Prelude.{ℕ, ℤ, ◌≡◌, List, [], ◌∷◌, ◌++◌, Option}
use Rattle.std.specs.Fmt.{signed_decimal}
use Rattle.std.specs.Io.KnownBytes.{Appends}

-- a space before each number, and LF after the last
abbrev pub others : List ℤ → List ℕ
others [] = 10 ∷ []
others (x ∷ xs) = (32 ∷ signed_decimal x) ++ others xs

-- a front of the text is written, and this rest of it is not
pub record Wrote (held now : Option (List ℕ)) (text rest : List ℕ) : Type 0 where
  pub front : List ℕ
  pub split : text ≡ front ++ rest
  pub appended : Appends held now front
