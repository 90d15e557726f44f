-- What a token is, by what it says.
use Rattle.std.specs.Prelude.{Bool, true, false}
use Rattle.msl_lex.specs.Lexemes.{Form, word, number, sign, close}
use Rattle.msl_lex.specs.declared.token.TokenKind.{TokenKind}
use Rattle.msl_lex.specs.declared.token.TokenKind.TheVariants as kind

abbrev pub kind_of : Form → TokenKind
kind_of (word w) = kind.Word
kind_of (number n) = kind.Number
kind_of (sign s) = kind.Sign
kind_of close = kind.Close

abbrev pub is_close : Form → Bool
is_close close = true
is_close _ = false
