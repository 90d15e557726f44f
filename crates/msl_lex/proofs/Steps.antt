-- How the tokens of a text come piece by piece.
use Rattle.std.proofs.Common.{◌≡◌, ℕ, zero, suc, ◌+◌, ◌-◌, ◌<◌, ◌≤◌, List, [], ◌∷◌, ◌++◌, length, map, take, drop, refl, ap, sym, ◌∙◌, Result, Ok, Err, arith, append_assoc, add-zero}
use Rattle.std.proofs.lemmas.List.{drop-drop, drop_all, length-drop, map-append}
use Rattle.msl_lex.specs.Computing.{Front, front_at, past, lexemes, lexemes_from}
use Rattle.msl_lex.specs.Computing as computing
use Rattle.msl_lex.specs.declared.token.Token.{Token}
use Rattle.msl_lex.specs.declared.token.TokenKind.{TokenKind}
use Rattle.msl_lex.specs.declared.token.TokenKind.TheVariants.{Close}
use Rattle.msl_lex.specs.declared.token.LexFault.{LexFault}
use Rattle.msl_lex.specs.Lexemes.{Lexeme, lexeme, form_of, with_first, lexeme_of}
use Rattle.msl_lex.specs.Pieces.{length_of, IsWithin}

-- these lexemes before the others
abbrev pub before : List Lexeme → Result (List Lexeme) LexFault → Result (List Lexeme) LexFault
before ls (Ok ts) = Ok (ls ++ ts)
before ls (Err e) = Err e

pub before-with_first : (ls : List Lexeme) (t : Lexeme) (r : Result (List Lexeme) LexFault) → before ls (with_first t r) ≡ before (ls ++ t ∷ []) r
before-with_first ls t (Ok ts) = ap Ok (sym (append_assoc ls (t ∷ []) ts))
before-with_first ls t (Err e) = refl

-- inside a piece its bytes are passed over
pub lexemes_from-inside : (n at : ℕ) (text : List ℕ) → n ≤ length text → lexemes_from n at text ≡ lexemes_from 0 (at + n) (drop n text)
lexemes_from-inside zero at text h = rw add-zero refl
lexemes_from-inside (suc n) at [] h = absurd (omega arith)
lexemes_from-inside (suc n) at (c ∷ text) h =
    let e : at + 1 + n ≡ at + suc n = omega arith in
    lexemes_from-inside n (at + 1) text (omega arith) ∙ ap (λ (k : ℕ). lexemes_from 0 k (drop n text)) e

-- the lexemes behind a piece
abbrev pub behind : ℕ → List ℕ → ℕ → Result (List Lexeme) LexFault
behind at text n = lexemes_from 0 (at + n) (drop n text)

pub behind_is : (n at c : ℕ) (text : List ℕ) → 0 < n → n ≤ length (c ∷ text) → lexemes_from (n - 1) (at + 1) text ≡ behind at (c ∷ text) n
behind_is zero at c text some h = absurd (omega arith)
behind_is (suc n) at c text some h =
    let e : suc n - 1 ≡ n = omega arith in
    let e2 : at + 1 + n ≡ at + suc n = omega arith in
    ap (λ (k : ℕ). lexemes_from k (at + 1) text) e ∙ (lexemes_from-inside n (at + 1) text (omega arith) ∙ ap (λ (k : ℕ). lexemes_from 0 k (drop n text)) e2)

pub past-within : (p : Front) (at c : ℕ) (text : List ℕ) → IsWithin (c ∷ text) p → past (Ok p) at (c ∷ text) (λ n. lexemes_from (n - 1) (at + 1) text) ≡ past (Ok p) at (c ∷ text) (behind at (c ∷ text))
past-within (computing.gap n) at c text h = behind_is n at c text h.0 h.1
past-within (computing.token k n) at c text h = ap (with_first (lexeme (form_of k (take n (c ∷ text))) at (at + n))) (behind_is n at c text h.0 h.1)

-- the lexemes from a place on, by the first piece there
pub lexemes_from-piece : (p : Front) (at : ℕ) (text : List ℕ) → front_at at text ≡ Ok p → IsWithin text p → lexemes_from 0 at text ≡ past (Ok p) at text (behind at text)
lexemes_from-piece p at [] e h = absurd (omega arith)
lexemes_from-piece p at (c ∷ text) e h = ap (λ (r : Result Front LexFault). past r at (c ∷ text) (λ n. lexemes_from (n - 1) (at + 1) text)) e ∙ past-within p at c text h

pub lexemes_from-refused : (at : ℕ) (text : List ℕ) (e : LexFault) → 0 < length text → front_at at text ≡ Err e → lexemes_from 0 at text ≡ Err e
lexemes_from-refused at [] e some h = absurd (omega arith)
lexemes_from-refused at (c ∷ text) e some h = ap (λ (r : Result Front LexFault). past r at (c ∷ text) (λ n. lexemes_from (n - 1) (at + 1) text)) h

-- ---- the steps of the loop

abbrev pub token : TokenKind → ℕ → ℕ → Token
token k from to = record { kind = k; from = from; to = to }

abbrev pub Reads : List ℕ → List Lexeme → ℕ → Type 0
Reads text ls at = lexemes text ≡ before ls (lexemes_from 0 at (drop at text))

module _ (text rest : List ℕ) (at n : ℕ) (p : Front) (from : rest ≡ drop at text) (first : Ok p ≡ front_at at rest) (within : IsWithin rest p) where
  reads_past : (ls : List Lexeme) → Reads text ls at → lexemes text ≡ before ls (past (Ok p) at rest (behind at rest))
  reads_past ls r = r ∙ ap (before ls) (ap (lexemes_from 0 at) (sym from) ∙ lexemes_from-piece p at rest (sym first) within)

  behind-drop : behind at rest n ≡ lexemes_from 0 (at + n) (drop (at + n) text)
  behind-drop = ap (lexemes_from 0 (at + n)) (ap (drop n) from ∙ drop-drop n at text)

  pub inside-more : at ≤ length text → length_of p ≡ n → at + n ≤ length text
  inside-more in_text e = omega (arith, ap length from, length-drop at text)

  pub reads_gap : (ls : List Lexeme) → p ≡ computing.gap n → Reads text ls at → Reads text ls (at + n)
  reads_gap ls e r = reads_past ls r ∙ ap (before ls) (ap (λ (q : Front). past (Ok q) at rest (behind at rest)) e ∙ behind-drop)

  pub reads_token : (tokens : List Token) (k : TokenKind) → p ≡ computing.token k n → Reads text (map (lexeme_of text) tokens) at → Reads text (map (lexeme_of text) (tokens ++ token k at (at + n) ∷ [])) (at + n)
  reads_token tokens k e r =
      let said = map (lexeme_of text) tokens in
      let t = lexeme (form_of k (take n rest)) at (at + n) in
      let gone : n ≡ at + n - at = omega arith in
      let spelt : take n rest ≡ take (at + n - at) (drop at text) = ap (take n) from ∙ ap (λ (m : ℕ). take m (drop at text)) gone in
      let t_is : t ≡ lexeme_of text (token k at (at + n)) = ap (λ (s : List ℕ). lexeme (form_of k s) at (at + n)) spelt in
      reads_past said r ∙ (ap (before said) (ap (λ (q : Front). past (Ok q) at rest (behind at rest)) e) ∙ (before-with_first said t (behind at rest n) ∙ (ap (before (said ++ t ∷ [])) behind-drop ∙ ap (λ (u : List Lexeme). before u (lexemes_from 0 (at + n) (drop (at + n) text))) (ap (λ (u : Lexeme). said ++ u ∷ []) t_is ∙ sym (map-append (lexeme_of text) tokens (token k at (at + n) ∷ []))))))

-- a text whose front is refused there is refused
pub reads_refused : (text rest : List ℕ) (at : ℕ) (e : LexFault) (ls : List Lexeme) → rest ≡ drop at text → at < length text → Err e ≡ front_at at rest → Reads text ls at → lexemes text ≡ Err e
reads_refused text rest at e ls from inside first r =
    let some : 0 < length rest = omega (arith, ap length from, length-drop at text) in
    r ∙ ap (before ls) (ap (lexemes_from 0 at) (sym from) ∙ lexemes_from-refused at rest e some (sym first))

-- behind the last byte stands the end
pub reads_end : (text : List ℕ) (at : ℕ) (tokens : List Token) → length text ≤ at → Reads text (map (lexeme_of text) tokens) at → lexemes text ≡ Ok (map (lexeme_of text) (tokens ++ token Close at at ∷ []))
reads_end text at tokens over r =
    r ∙ (ap (λ (t : List ℕ). before (map (lexeme_of text) tokens) (lexemes_from 0 at t)) (drop_all at text over) ∙ ap Ok (sym (map-append (lexeme_of text) tokens (token Close at at ∷ []))))
