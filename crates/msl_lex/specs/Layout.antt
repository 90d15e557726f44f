-- How a text is made of tokens: a gap, a spelling, a gap and so on, up to its end or to the first fault.
-- This is what `lex` promises.
use Rattle.std.specs.Prelude.{◌≡◌, ◌≢◌, ℕ, ◌+◌, ◌<◌, ◌≤◌, Bool, false, ◌&&◌, List, [], ◌∷◌, ◌++◌, length, map, IsTrue, Result, Ok, Err}
use Rattle.std.specs.List.{list_all, list_any}
use Rattle.std.specs.Str.{bytes_eq}
use Rattle.msl_lex.specs.declared.token.Token.{Token}
use Rattle.msl_lex.specs.declared.token.TokenKind.{TokenKind}
use Rattle.msl_lex.specs.declared.token.TokenKind.TheVariants as kind
use Rattle.msl_lex.specs.declared.token.LexFault.{LexFault}
use Rattle.msl_lex.specs.declared.token.LexFault.TheVariants.{Byte, LongName, Number, NoMemory}
use Rattle.msl_lex.specs.Bytes.{is_blank, is_letter, is_digit, is_word_byte, is_comment_byte, signs, value_of_digits}
use Rattle.msl_lex.specs.Lexemes.{Lexeme, lexeme, close, form_of, lexeme_of, with_first, longest_name, greatest_number}

-- an LF comes next, or the end
abbrev pub EndsLine : List ℕ → Type 0
EndsLine [] = Unit {0}
EndsLine (c ∷ text) = c ≡ 10

-- blanks and comments alone, with what comes after them; a comment begins with # and goes to the next LF or the end
pub data IsGap (after : List ℕ) : List ℕ → Type 0 where
  none : IsGap after []
  blank : (c : ℕ) (gap : List ℕ) → IsTrue (is_blank c) → IsGap after gap → IsGap after (c ∷ gap)
  comment : (inside gap : List ℕ) → IsTrue (list_all is_comment_byte inside) → EndsLine (gap ++ after) → IsGap after gap → IsGap after (35 ∷ (inside ++ gap))

-- a letter or _, then letters, digits and _
abbrev pub is_word : List ℕ → Bool
is_word [] = false
is_word (c ∷ cs) = is_letter c && list_all is_word_byte cs

-- decimal digits, one or more
abbrev pub is_number : List ℕ → Bool
is_number [] = false
is_number (c ∷ cs) = list_all is_digit (c ∷ cs)

abbrev pub is_sign : List ℕ → Bool
is_sign s = list_any (bytes_eq s) signs

abbrev pub spells : TokenKind → List ℕ → Bool
spells kind.Word s = is_word s
spells kind.Number s = is_number s
spells kind.Sign s = is_sign s
spells kind.Close s = false

-- a spelling of the kind, with what comes after it; no longer text from here on is one
pub record IsLongest (k : TokenKind) (spelling after : List ℕ) : Type 0 where
  pub is_one : IsTrue (spells k spelling)
  pub longest : (more rest : List ℕ) → after ≡ more ++ rest → IsTrue (spells k (spelling ++ more)) → more ≡ []

-- the limits on what a token says
abbrev pub IsInLimits : TokenKind → List ℕ → Type 0
IsInLimits kind.Word s = length s ≤ longest_name
IsInLimits kind.Number s = value_of_digits s ≤ greatest_number
IsInLimits _ s = Unit {0}

-- the fault of a text that stands at this place
pub data IsFault (at : ℕ) : List ℕ → LexFault → Type 0 where
  no_token : (c : ℕ) (cs : List ℕ) → is_blank c ≡ false → c ≢ 35 → ((k : TokenKind) (s rest : List ℕ) → c ∷ cs ≡ s ++ rest → spells k s ≡ false) → IsFault at (c ∷ cs) (Byte at)
  long_name : (s rest : List ℕ) → IsLongest kind.Word s rest → longest_name < length s → IsFault at (s ++ rest) (LongName at)
  great_number : (s rest : List ℕ) → IsLongest kind.Number s rest → greatest_number < value_of_digits s → IsFault at (s ++ rest) (Number at)

-- the text from a place on has these lexemes, or this refusal
pub data ReadsAs : ℕ → List ℕ → Result (List Lexeme) LexFault → Type 0 where
  ends : (at end : ℕ) (gap : List ℕ) → IsGap [] gap → end ≡ at + length gap → ReadsAs at gap (Ok (lexeme close end end ∷ []))
  goes : (at from to : ℕ) (k : TokenKind) (gap s rest : List ℕ) (others : Result (List Lexeme) LexFault) → IsGap (s ++ rest) gap → from ≡ at + length gap → IsLongest k s rest → IsInLimits k s → to ≡ from + length s → ReadsAs to rest others → ReadsAs at (gap ++ (s ++ rest)) (with_first (lexeme (form_of k s) from to) others)
  stops : (at from : ℕ) (gap after : List ℕ) (fault : LexFault) → IsGap after gap → from ≡ at + length gap → IsFault from after fault → ReadsAs at (gap ++ after) (Err fault)

-- these are the tokens of the text, all of them in order
pub record AreTokensOf (text : List ℕ) (tokens : List Token) : Type 0 where
  pub said : ReadsAs 0 text (Ok (map (lexeme_of text) tokens))

-- this is the text's refusal; want of memory says nothing of it
abbrev pub IsRefusalOf : List ℕ → LexFault → Type 0
IsRefusalOf text NoMemory = Unit {0}
IsRefusalOf text fault = ReadsAs 0 text (Err fault)
