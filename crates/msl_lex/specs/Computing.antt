-- The lexemes of a text, computed from its first byte to its last: a form for worked examples. `lex` promises the layout,
-- and by the law `text_is_laid_out` each text is laid out as these lexemes and as nothing else.
use Rattle.std.specs.Prelude.{ℕ, zero, suc, ◌+◌, ◌-◌, if◌then◌else◌, ◌==◌, nat_lt, List, [], ◌∷◌, take, Result, Ok, Err}
use Rattle.std.specs.List.{prefix_len}
use Rattle.msl_lex.specs.declared.token.TokenKind.{TokenKind}
use Rattle.msl_lex.specs.declared.token.TokenKind.TheVariants as kind
use Rattle.msl_lex.specs.declared.token.LexFault.{LexFault}
use Rattle.msl_lex.specs.declared.token.LexFault.TheVariants.{Byte, LongName, Number}
use Rattle.msl_lex.specs.Bytes.{is_blank, is_letter, is_digit, is_word_byte, is_comment_byte, is_short_sign, starts_long_sign, value_of_digits}
use Rattle.msl_lex.specs.Lexemes.{Lexeme, lexeme, close, form_of, longest_name, greatest_number, with_first}

-- what stands at the front of a text, with its length: bytes that separate, or a token
pub data Front : Type 0 where
  gap : ℕ → Front
  token : TokenKind → ℕ → Front

abbrev pub word_at : ℕ → ℕ → Result Front LexFault
word_at at len = if nat_lt longest_name len then Err (LongName at) else Ok (token kind.Word len)

abbrev pub number_at : ℕ → ℕ → List ℕ → Result Front LexFault
number_at at len text =
    if nat_lt greatest_number (value_of_digits (take len text)) then Err (Number at) else Ok (token kind.Number len)

abbrev pub sign_at : ℕ → ℕ → List ℕ → Result Front LexFault
sign_at at c text =
    if starts_long_sign text then Ok (token kind.Sign 2)
    else if is_short_sign c then Ok (token kind.Sign 1)
    else Err (Byte at)

-- by the first byte: bytes that separate, or the longest word, number or sign
abbrev pub front_at : ℕ → List ℕ → Result Front LexFault
front_at at [] = Err (Byte at)
front_at at (c ∷ text) =
    if is_blank c then Ok (gap 1)
    else if c == 35 then Ok (gap (prefix_len is_comment_byte (c ∷ text)))
    else if is_letter c then word_at at (prefix_len is_word_byte (c ∷ text))
    else if is_digit c then number_at at (prefix_len is_digit (c ∷ text)) (c ∷ text)
    else sign_at at c (c ∷ text)

-- the lexemes of a text by its front, and by those behind a front of so many bytes
abbrev pub past : Result Front LexFault → ℕ → List ℕ → (ℕ → Result (List Lexeme) LexFault) → Result (List Lexeme) LexFault
past (Ok (gap n)) at text behind = behind n
past (Ok (token k n)) at text behind = with_first (lexeme (form_of k (take n text)) at (at + n)) (behind n)
past (Err e) at text behind = Err e

-- the lexemes from a place on, where so many bytes still belong to what stands before it; the last is the end of the text
abbrev pub lexemes_from : ℕ → ℕ → List ℕ → Result (List Lexeme) LexFault
lexemes_from inside at [] = Ok (lexeme close at at ∷ [])
lexemes_from (suc n) at (c ∷ text) = lexemes_from n (at + 1) text
lexemes_from zero at (c ∷ text) = past (front_at at (c ∷ text)) at (c ∷ text) (λ n. lexemes_from (n - 1) (at + 1) text)

abbrev pub lexemes : List ℕ → Result (List Lexeme) LexFault
lexemes text = lexemes_from 0 0 text
