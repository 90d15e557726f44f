-- The pieces that the lexer cuts a text into, as the fronts that they are. No promise to the outside stands on them.
use Rattle.std.specs.Prelude.{ℕ, ◌<◌, ◌≤◌, List, length, Result, Ok, Err}
use Rattle.msl_lex.specs.declared.lexer.Piece.{Piece}
use Rattle.msl_lex.specs.declared.lexer.Piece.TheVariants as piece
use Rattle.msl_lex.specs.declared.token.LexFault.{LexFault}
use Rattle.msl_lex.specs.Computing.{Front, gap, token}

abbrev pub front_of : Piece → Front
front_of (piece.Gap n) = gap n
front_of (piece.Token k n) = token k n

abbrev pub front_in : Result Piece LexFault → Result Front LexFault
front_in (Ok p) = Ok (front_of p)
front_in (Err e) = Err e

abbrev pub length_of : Front → ℕ
length_of (gap n) = n
length_of (token k n) = n

-- a front has a byte at least, and all its bytes are in the text
abbrev pub IsWithin : List ℕ → Front → Type 0
IsWithin text f = (0 < length_of f) × (length_of f ≤ length text)
