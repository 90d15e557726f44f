-- The places of the tokens of a text.
use Rattle.std.proofs.Common.{◌≡◌, ◌≢◌, ℕ, zero, suc, ◌+◌, ◌<◌, ◌≤◌, List, [], ◌∷◌, ◌++◌, length, map, get_or, refl, ap, sym, subst, ◌∙◌, Result, Ok, arith, length-append}
use Rattle.std.specs.Prelude.{All}
use Rattle.msl_lex.specs.declared.token.Token.{Token}
use Rattle.msl_lex.specs.declared.token.TokenKind.{TokenKind}
use Rattle.msl_lex.specs.declared.token.TokenKind.TheVariants.{Word, Number, Sign, Close}
use Rattle.msl_lex.specs.declared.token.LexFault.{LexFault}
use Rattle.msl_lex.specs.Lexemes.{Lexeme, lexeme, form_of, close, lexeme_of}
use Rattle.msl_lex.specs.Layout.{AreTokensOf, ReadsAs, ends, goes, stops}
use Rattle.msl_lex.proofs.Said.{FirstSays, first_says, LoneSays, lone_says}
use Rattle.msl_lex.proofs.Within.{not_close, has_byte}
use Rattle.msl_lex.specs.Places.{AreInOrder, LiesWithin, ClosesLast}

-- the kind of a form
pub closes : (k : TokenKind) (s : List ℕ) → form_of k s ≡ close → k ≡ Close
closes Close s e = refl
closes Word s e = cc
closes Number s e = cc
closes Sign s e = cc

closes_not : (k j : TokenKind) (s t : List ℕ) → k ≢ Close → form_of k s ≡ form_of j t → j ≢ Close
closes_not k j s t open_kind e = λ e2. open_kind (closes k s (e ∙ ap (λ (i : TokenKind). form_of i t) e2))

module _ (source : List ℕ) where
  last_order : (at end : ℕ) (tokens : List Token) → at ≤ end → LoneSays source (lexeme close end end) tokens → AreInOrder at end tokens
  last_order at end tokens le said =
      let t = said.lone in
      subst (λ ts. AreInOrder at end ts) (sym said.whole)
      (closes t.kind _ (sym (ap (λ (l : Lexeme). l.form) said.says)), le, sym (ap (λ (l : Lexeme). l.at) said.says), sym (ap (λ (l : Lexeme). l.end) said.says))

  more_order : (at end : ℕ) (t : Token) (ts : List Token) → t.kind ≢ Close → at ≤ t.from → t.from < t.to → t.to ≤ end → AreInOrder t.to end ts → AreInOrder at end (t ∷ ts)
  more_order at end t [] kind le lt within h = absurd h
  more_order at end t (u ∷ ts) kind le lt within h = (kind, le, lt, within, h)

  goes_order : (at from to end : ℕ) (k : TokenKind) (s : List ℕ) (tokens : List Token) (others : Result (List Lexeme) LexFault) → k ≢ Close → at ≤ from → from < to → to ≤ end → (said : FirstSays source (lexeme (form_of k s) from to) others tokens) → AreInOrder to end said.later → AreInOrder at end tokens
  goes_order at from to end k s tokens others kind le lt within said h =
      let t = said.first in
      let from_is : from ≡ t.from = ap (λ (l : Lexeme). l.at) said.says in
      let to_is : to ≡ t.to = ap (λ (l : Lexeme). l.end) said.says in
      subst (λ ts. AreInOrder at end ts) (sym said.whole)
      (more_order at end t said.later (closes_not k t.kind s _ kind (ap (λ (l : Lexeme). l.form) said.says)) (omega arith) (omega arith) (omega arith) (subst (λ n. AreInOrder n end said.later) to_is h))

  pub in_order : {at : ℕ} {text : List ℕ} {r : Result (List Lexeme) LexFault} → ReadsAs at text r → (tokens : List Token) → r ≡ Ok (map (lexeme_of source) tokens) → AreInOrder at (at + length text) tokens
  in_order (ends at end gap g e) tokens h =
      subst (λ n. AreInOrder at n tokens) e (last_order at end tokens (omega arith) (lone_says source (lexeme close end end) tokens h))
  in_order (goes at from to k gap s rest others g e longest limits e2 more) tokens h =
      let some = has_byte k s longest.is_one in
      let size : at + length (gap ++ (s ++ rest)) ≡ to + length rest = omega (arith, length-append gap (s ++ rest), length-append s rest) in
      let said = first_says source (lexeme (form_of k s) from to) others tokens h in
      subst (λ n. AreInOrder at n tokens) (sym size)
      (goes_order at from to (to + length rest) k s tokens others (not_close k s longest.is_one) (omega arith) (omega arith) (omega arith) said (in_order more said.later said.say))
  in_order (stops at from gap after fault g e f) tokens h = cc

-- ---- by index

within_from : (at end : ℕ) (tokens : List Token) → AreInOrder at end tokens → (k : ℕ) (d : Token) → k < length tokens → LiesWithin end (get_or tokens k d)
within_from at end [] h k d lt = absurd h
within_from at end (t ∷ []) h zero d lt = (omega (arith, h.2, h.3), omega (arith, h.3))
within_from at end (t ∷ []) h (suc k) d lt = absurd (omega arith)
within_from at end (t ∷ u ∷ ts) h zero d lt = (omega (arith, h.2), h.3)
within_from at end (t ∷ u ∷ ts) h (suc k) d lt = within_from t.to end (u ∷ ts) h.4 k d (omega arith)

pub all_within : (at end : ℕ) (tokens : List Token) → AreInOrder at end tokens → All (LiesWithin end) tokens
all_within at end tokens h = within_from at end tokens h

pub closes_last : (at end : ℕ) (tokens : List Token) → AreInOrder at end tokens → ClosesLast tokens
closes_last at end [] h k d lt = absurd h
closes_last at end (t ∷ []) h zero d lt = (λ _. omega arith, λ _. h.0)
closes_last at end (t ∷ []) h (suc k) d lt = absurd (omega arith)
closes_last at end (t ∷ u ∷ ts) h zero d lt = (λ e. absurd (h.0 e), λ e. absurd (omega (arith, e)))
closes_last at end (t ∷ u ∷ ts) h (suc k) d lt =
    let later = closes_last t.to end (u ∷ ts) h.4 k d (omega arith) in
    (λ e. omega (arith, later.0 e), λ e. later.1 (omega (arith, e)))

pub tokens_in_order : (text : List ℕ) (tokens : List Token) → AreTokensOf text tokens → AreInOrder 0 (length text) tokens
tokens_in_order text tokens h =
    let e : 0 + length text ≡ length text = omega arith in
    subst (λ n. AreInOrder 0 n tokens) e (in_order text h.said tokens refl)
