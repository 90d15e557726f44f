-- The tokens that are still to be read.
use Rattle.std.specs.Prelude.{◌≡◌, ◌≢◌, ℕ, List, [], ◌∷◌, length, Option, Some, None, if◌then◌else◌}
use Rattle.msl_lex.specs.declared.token.Token.{Token}
use Rattle.msl_lex.specs.declared.token.TokenKind.TheVariants.{Close}
use Rattle.msl_base.specs.Names.{Text, is_among}
use Rattle.msl_lex.specs.Lexemes.{Form, Lexeme, word, number, close}
use Rattle.msl_lex.specs.Names.{reserved}
use Rattle.msl_lex.specs.Places.{LiesWithin, IsSpelt}
use Rattle.msl_read.specs.Reading.{ahead}

-- what the first token says
abbrev pub form : List Lexeme → Form
form [] = close
form (t ∷ ts) = t.form

-- what the token behind it says
abbrev pub form_behind : List Lexeme → Form
form_behind [] = close
form_behind (t ∷ ts) = (ahead t ts).form

-- tokens of a text up to its last, which, and no other, is its end
abbrev pub AreOpen : List ℕ → List Token → Type 0
AreOpen text [] = ⊥
AreOpen text (t ∷ []) = (t.kind ≡ Close) × LiesWithin (length text) t
AreOpen text (t ∷ u ∷ ts) = (t.kind ≢ Close) × LiesWithin (length text) t × IsSpelt text t × AreOpen text (u ∷ ts)

abbrev pub IsNumber : Form → Type 0
IsNumber (number n) = Unit {0}
IsNumber _ = ⊥

-- the name that a token is, where it is one
abbrev pub name_in : Form → Option Text
name_in (word w) = if is_among reserved w then None else Some w
name_in _ = None

abbrev pub word_in : Form → Text
word_in (word w) = w
word_in _ = []

abbrev pub number_in : Form → ℕ
number_in (number n) = n
number_in _ = 0
