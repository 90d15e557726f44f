-- A piece has a byte at least, and ends within its text.
use Rattle.std.proofs.Common.{◌≡◌, ℕ, ◌<◌, ◌≤◌, Bool, true, false, List, [], ◌∷◌, length, get_or, IfOk, Result, Ok, Err, arith, refl, sym, subst}
use Rattle.std.proofs.lemmas.List.Sums.{prefix_len-le-length}
use Rattle.std.specs.List.{prefix_len}
use Rattle.msl_lex.specs.Lexemes.{longest_name}
use Rattle.msl_lex.specs.Computing.{Front, word_at}
use Rattle.msl_lex.specs.Pieces.{front_of, front_in, IsWithin}
use Rattle.msl_lex.specs.declared.lexer.Piece.{Piece}
use Rattle.msl_lex.specs.declared.token.LexFault.{LexFault}
use Rattle.msl_lex.specs.Layout.{spells}
use Rattle.msl_lex.specs.declared.token.TokenKind.{TokenKind}
use Rattle.msl_lex.specs.declared.token.TokenKind.TheVariants.{Word, Number, Sign, Close}
use Rattle.std.proofs.Common.{◌≢◌}
use Rattle.std.specs.Prelude.{nat_lt}

pub prefix_len_within : (p : ℕ → Bool) (text : List ℕ) → 0 < length text → p (get_or text 0 0) ≡ true → (0 < prefix_len p text) × (prefix_len p text ≤ length text)
prefix_len_within p [] some h = absurd (omega arith)
prefix_len_within p (c ∷ text) some h = rw h (omega arith, omega (arith, prefix_len-le-length p text))

word_within-by : (at n : ℕ) (text : List ℕ) (b : Bool) → nat_lt longest_name n ≡ b → 0 < n → n ≤ length text → IfOk (word_at at n) (IsWithin text)
word_within-by at n text true e some h = rw e tt
word_within-by at n text false e some h = rw e (some, h)

pub word_within : (at n : ℕ) (text : List ℕ) → 0 < n → n ≤ length text → IfOk (word_at at n) (IsWithin text)
word_within at n text some h = word_within-by at n text (nat_lt longest_name n) refl some h

-- what is said of a front is said of the piece that it is of
pub piece_within : (text : List ℕ) (r : Result Piece LexFault) (f : Result Front LexFault) → front_in r ≡ f → IfOk f (IsWithin text) → IfOk r (λ p. IsWithin text (front_of p))
piece_within text (Ok p) f e h = subst (λ f. IfOk f (IsWithin text)) (sym e) h
piece_within text (Err e) f is h = tt

-- a spelling's kind isn't Close, and it has a byte
pub not_close : (k : TokenKind) (s : List ℕ) → spells k s ≡ true → k ≢ Close
not_close Close s h e = cc
not_close Word s h e = cc
not_close Number s h e = cc
not_close Sign s h e = cc

pub has_byte : (k : TokenKind) (s : List ℕ) → spells k s ≡ true → 0 < length s
has_byte k (c ∷ s) h = omega arith
has_byte Close [] h = cc
has_byte Word [] h = cc
has_byte Number [] h = cc
has_byte Sign [] h = cc
