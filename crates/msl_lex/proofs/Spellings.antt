-- The spellings of the tokens of a text.
use Rattle.std.proofs.Common.{◌≡◌, ℕ, zero, suc, ◌+◌, ◌-◌, ◌<◌, List, [], ◌∷◌, ◌++◌, length, map, take, drop, get_or, slice_range, refl, ap, sym, subst, ◌∙◌, Result, Ok, arith, IsTrue}
use Rattle.std.proofs.lemmas.List.{drop-drop, drop_at, take_at}
use Rattle.msl_lex.specs.declared.token.Token.{Token}
use Rattle.msl_lex.specs.declared.token.TokenKind.{TokenKind}
use Rattle.msl_lex.specs.declared.token.TokenKind.TheVariants.{Word, Number, Sign, Close}
use Rattle.msl_lex.specs.declared.token.LexFault.{LexFault}
use Rattle.msl_lex.specs.Lexemes.{Lexeme, lexeme, form_of, close, lexeme_of}
use Rattle.msl_lex.specs.Layout.{AreTokensOf, IsInLimits, spells, ReadsAs, ends, goes, stops}
use Rattle.msl_lex.specs.Places.{IsSpelt}
use Rattle.msl_lex.proofs.Orders.{closes}
use Rattle.msl_lex.proofs.Said.{first_says, LoneSays, lone_says}

-- what is said of one spelling has one kind
same_kind : (k j : TokenKind) (s : List ℕ) → form_of k s ≡ form_of j s → j ≡ k
same_kind Word Word s e = refl
same_kind Number Number s e = refl
same_kind Sign Sign s e = refl
same_kind Close Close s e = refl
same_kind Word Number s e = cc
same_kind Word Sign s e = cc
same_kind Word Close s e = cc
same_kind Number Word s e = cc
same_kind Number Sign s e = cc
same_kind Number Close s e = cc
same_kind Sign Word s e = cc
same_kind Sign Number s e = cc
same_kind Sign Close s e = cc
same_kind Close Word s e = cc
same_kind Close Number s e = cc
same_kind Close Sign s e = cc

module _ (source : List ℕ) where
  -- each token, by its index
  abbrev AllSpelt : List Token → Type 0
  AllSpelt tokens = (k : ℕ) (d : Token) → k < length tokens → IsSpelt source (get_or tokens k d)

  more_spelt : (t : Token) (ts : List Token) → IsSpelt source t → AllSpelt ts → AllSpelt (t ∷ ts)
  more_spelt t ts h hs zero d lt = h
  more_spelt t ts h hs (suc k) d lt = hs k d (omega arith)

  none_spelt : AllSpelt []
  none_spelt k d lt = absurd (omega arith)

  last_spelt : (end : ℕ) (tokens : List Token) → LoneSays source (lexeme close end end) tokens → AllSpelt tokens
  last_spelt end tokens said =
      let t = said.lone in
      subst (λ ts. AllSpelt ts) (sym said.whole)
      (more_spelt t [] (λ open_kind. absurd (open_kind (closes t.kind _ (sym (ap (λ (l : Lexeme). l.form) said.says))))) none_spelt)

  token_spelt : (from to : ℕ) (k : TokenKind) (s : List ℕ) (t : Token) → slice_range source from to ≡ s → IsTrue (spells k s) → IsInLimits k s → lexeme (form_of k s) from to ≡ lexeme_of source t → IsSpelt source t
  token_spelt from to k s t e one limits e2 = λ _.
      let from_is : from ≡ t.from = ap (λ (l : Lexeme). l.at) e2 in
      let to_is : to ≡ t.to = ap (λ (l : Lexeme). l.end) e2 in
      let slice : slice_range source t.from t.to ≡ s = ap (λ (n : ℕ). slice_range source n t.to) (sym from_is) ∙ (ap (λ (n : ℕ). slice_range source from n) (sym to_is) ∙ e) in
      let kind_is : t.kind ≡ k = same_kind k t.kind s (ap (λ (l : Lexeme). l.form) e2 ∙ ap (form_of t.kind) slice) in
      subst (λ j. IsTrue (spells j (slice_range source t.from t.to)) × IsInLimits j (slice_range source t.from t.to)) (sym kind_is) (subst (λ x. IsTrue (spells k x) × IsInLimits k x) (sym slice) (one, limits))

  -- the source behind a front that stands at a place
  source_behind : (at to : ℕ) (front rest : List ℕ) → drop at source ≡ front ++ rest → to ≡ at + length front → drop to source ≡ rest
  source_behind at to front rest h e =
      ap (λ (n : ℕ). drop n source) e ∙ (sym (drop-drop (length front) at source) ∙ (ap (drop (length front)) h ∙ drop_at front rest (length front) refl))

  slice_is : (from to : ℕ) (s rest : List ℕ) → drop from source ≡ s ++ rest → to ≡ from + length s → slice_range source from to ≡ s
  slice_is from to s rest h e =
      let size : to - from ≡ length s = omega arith in
      ap (take (to - from)) h ∙ (ap (λ (n : ℕ). take n (s ++ rest)) size ∙ take_at s rest (length s) refl)

  spelt_from : {at : ℕ} {text : List ℕ} {r : Result (List Lexeme) LexFault} → ReadsAs at text r → drop at source ≡ text → (tokens : List Token) → r ≡ Ok (map (lexeme_of source) tokens) → AllSpelt tokens
  spelt_from (ends at end gap g e) here tokens h = last_spelt end tokens (lone_says source (lexeme close end end) tokens h)
  spelt_from (goes at from to k gap s rest others g e longest limits e2 more) here tokens h =
      let from_here = source_behind at from gap (s ++ rest) here e in
      let said = first_says source (lexeme (form_of k s) from to) others tokens h in
      let one = token_spelt from to k s said.first (slice_is from to s rest from_here e2) longest.is_one limits said.says in
      subst (λ ts. AllSpelt ts) (sym said.whole)
      (more_spelt said.first said.later one (spelt_from more (source_behind from to s rest from_here e2) said.later said.say))
  spelt_from (stops at from gap after fault g e f) here tokens h = cc

pub tokens_spelt : (text : List ℕ) (tokens : List Token) → AreTokensOf text tokens → (k : ℕ) (d : Token) → k < length tokens → IsSpelt text (get_or tokens k d)
tokens_spelt text tokens h = spelt_from text h.said refl tokens refl
