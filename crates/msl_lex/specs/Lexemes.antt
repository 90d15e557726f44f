-- The tokens of a text: each with what it says, where it begins and where it is over.
use Rattle.std.specs.Prelude.{ℕ, List, ◌∷◌, slice_range, Result, Ok, Err}
use Rattle.msl_base.specs.declared.limits.TheConstants.{LONGEST_NAME, GREATEST_NUMBER}
use Rattle.msl_lex.specs.declared.token.Token.{Token}
use Rattle.msl_lex.specs.declared.token.TokenKind.{TokenKind}
use Rattle.msl_lex.specs.declared.token.TokenKind.TheVariants as kind
use Rattle.msl_lex.specs.declared.token.LexFault.{LexFault}
use Rattle.msl_lex.specs.Bytes.{value_of_digits}

pub data Form : Type 0 where
  word : List ℕ → Form
  number : ℕ → Form
  sign : List ℕ → Form
  close : Form

pub record Lexeme : Type 0 where
  pub form : Form
  pub at : ℕ
  pub end : ℕ

abbrev pub lexeme : Form → ℕ → ℕ → Lexeme
lexeme form at end = record { form = form; at = at; end = end }

-- what a token of a kind says by its bytes
abbrev pub form_of : TokenKind → List ℕ → Form
form_of kind.Word spelling = word spelling
form_of kind.Number spelling = number (value_of_digits spelling)
form_of kind.Sign spelling = sign spelling
form_of kind.Close spelling = close

-- what a token says of its text: its spelling is the slice between its places
abbrev pub lexeme_of : List ℕ → Token → Lexeme
lexeme_of text t = lexeme (form_of t.kind (slice_range text t.from t.to)) t.from t.to

abbrev pub longest_name : ℕ
longest_name = LONGEST_NAME

abbrev pub greatest_number : ℕ
greatest_number = GREATEST_NUMBER

abbrev pub with_first : Lexeme → Result (List Lexeme) LexFault → Result (List Lexeme) LexFault
with_first t (Ok ts) = Ok (t ∷ ts)
with_first t (Err e) = Err e
