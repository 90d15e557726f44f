-- Tokens that say given lexemes.
use Rattle.std.proofs.Common.{◌≡◌, ℕ, List, [], ◌∷◌, map, refl, ap, Result, Ok, Err}
use Rattle.msl_lex.specs.declared.token.Token.{Token}
use Rattle.msl_lex.specs.declared.token.LexFault.{LexFault}
use Rattle.msl_lex.specs.Lexemes.{Lexeme, with_first, lexeme_of}

-- the first token says this lexeme, and the others say those behind it
pub record FirstSays (source : List ℕ) (l : Lexeme) (others : Result (List Lexeme) LexFault) (tokens : List Token) : Type 0 where
  pub first : Token
  pub later : List Token
  pub whole : tokens ≡ first ∷ later
  pub says : l ≡ lexeme_of source first
  pub say : others ≡ Ok (map (lexeme_of source) later)

pub first_says : (source : List ℕ) (l : Lexeme) (others : Result (List Lexeme) LexFault) (tokens : List Token) → with_first l others ≡ Ok (map (lexeme_of source) tokens) → FirstSays source l others tokens
first_says source l (Err fault) tokens e = cc
first_says source l (Ok ls) [] e = cc
first_says source l (Ok ls) (t ∷ ts) e =
    let same : ls ≡ map (lexeme_of source) ts = cc in
    record { first = t; later = ts; whole = refl; says = cc; say = ap Ok same }

-- a lone lexeme is said by a lone token
pub record LoneSays (source : List ℕ) (l : Lexeme) (tokens : List Token) : Type 0 where
  pub lone : Token
  pub whole : tokens ≡ lone ∷ []
  pub says : l ≡ lexeme_of source lone

pub lone_says : (source : List ℕ) (l : Lexeme) (tokens : List Token) → ◌≡◌ {A = Result (List Lexeme) LexFault} (Ok (l ∷ [])) (Ok (map (lexeme_of source) tokens)) → LoneSays source l tokens
lone_says source l [] e = cc
lone_says source l (t ∷ u ∷ ts) e = cc
lone_says source l (t ∷ []) e = record { lone = t; whole = refl; says = cc }
