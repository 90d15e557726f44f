-- The lexemes of a text are those of its layout.
use Rattle.std.proofs.Common.{◌≡◌, ℕ, zero, suc, ◌+◌, ◌<◌, ◌≤◌, List, [], ◌∷◌, ◌++◌, length, take, drop, refl, sym, subst, Result, Ok, Err, arith, append_assoc, append-nil, length-append}
use Rattle.std.proofs.lemmas.List.{take-append-drop, length-take-le, length-drop}
use Rattle.msl_lex.specs.declared.token.LexFault.TheVariants.{Byte, LongName, Number, NoMemory}
use Rattle.msl_lex.specs.Computing.{Front, front_at, lexemes, lexemes_from}
use Rattle.msl_lex.specs.Computing as computing
use Rattle.msl_lex.specs.declared.token.TokenKind.{TokenKind}
use Rattle.msl_lex.specs.declared.token.LexFault.{LexFault}
use Rattle.msl_lex.specs.Lexemes.{Lexeme, lexeme, form_of, with_first}
use Rattle.msl_lex.specs.Layout.{IsRefusalOf, IsGap, none, blank, comment, IsLongest, IsInLimits, ReadsAs, ends, goes, stops}
use Rattle.msl_lex.proofs.Fronts.{IsSeparator, one_blank, one_comment, FrontOf, front_is}
use Rattle.msl_lex.proofs.Steps.{behind, lexemes_from-piece, lexemes_from-refused}

-- a separator in front makes a longer gap
gap_more : {front : List ℕ} (after gap : List ℕ) → IsSeparator (gap ++ after) front → IsGap after gap → IsGap after (front ++ gap)
gap_more after gap (one_blank c e) g = blank c gap e g
gap_more after gap (one_comment inside e line) g = comment inside gap e line g

separated : {at : ℕ} {text : List ℕ} {r : Result (List Lexeme) LexFault} (before : ℕ) (front : List ℕ) → at ≡ before + length front → IsSeparator text front → ReadsAs at text r → ReadsAs before (front ++ text) r
separated before front e s (ends at end gap g e2) =
    ends before end (front ++ gap) (gap_more [] gap (subst (λ t. IsSeparator t front) (sym (append-nil gap)) s) g) (omega (arith, length-append front gap))
separated before front e s (goes at from to k gap spelling rest others g e2 longest limits e3 more) =
    subst (λ t. ReadsAs before t (with_first (lexeme (form_of k spelling) from to) others)) (append_assoc front gap (spelling ++ rest))
    (goes before from to k (front ++ gap) spelling rest others (gap_more (spelling ++ rest) gap s g) (omega (arith, length-append front gap)) longest limits e3 more)
separated before front e s (stops at from gap after fault g e2 f) =
    subst (λ t. ReadsAs before t (Err fault)) (append_assoc front gap after)
    (stops before from (front ++ gap) after fault (gap_more after gap s g) (omega (arith, length-append front gap)) f)

-- the front and the rest make the text
module _ (at n : ℕ) (text : List ℕ) (fits : n ≤ length text) (later : ReadsAs (at + n) (drop n text) (behind at text n)) where
  after_gap : IsSeparator (drop n text) (take n text) → ReadsAs at text (behind at text n)
  after_gap s =
      subst (λ t. ReadsAs at t (behind at text n)) (take-append-drop n text)
      (separated at (take n text) (omega (arith, length-take-le n text fits)) s later)

  after_token : (k : TokenKind) → IsLongest k (take n text) (drop n text) → IsInLimits k (take n text) → ReadsAs at text (with_first (lexeme (form_of k (take n text)) at (at + n)) (behind at text n))
  after_token k longest limits =
      subst (λ t. ReadsAs at t (with_first (lexeme (form_of k (take n text)) at (at + n)) (behind at text n))) (take-append-drop n text)
      (goes at at (at + n) k [] (take n text) (drop n text) (behind at text n) none (omega arith) longest limits (omega (arith, length-take-le n text fits)) later)

reads_piece : (at c : ℕ) (cs : List ℕ) (r : Result Front LexFault) → front_at at (c ∷ cs) ≡ r → FrontOf at (c ∷ cs) r → ((n : ℕ) → 0 < n → ReadsAs (at + n) (drop n (c ∷ cs)) (behind at (c ∷ cs) n)) → ReadsAs at (c ∷ cs) (lexemes_from 0 at (c ∷ cs))
reads_piece at c cs (Ok (computing.gap n)) e front later =
    subst (λ r. ReadsAs at (c ∷ cs) r) (sym (lexemes_from-piece (computing.gap n) at (c ∷ cs) e front.0)) (after_gap at n (c ∷ cs) front.0.1 (later n front.0.0) front.1)
reads_piece at c cs (Ok (computing.token k n)) e front later =
    subst (λ r. ReadsAs at (c ∷ cs) r) (sym (lexemes_from-piece (computing.token k n) at (c ∷ cs) e front.0)) (after_token at n (c ∷ cs) front.0.1 (later n front.0.0) k front.1 front.2)
reads_piece at c cs (Err fault) e front later =
    subst (λ r. ReadsAs at (c ∷ cs) r) (sym (lexemes_from-refused at (c ∷ cs) fault (omega arith) e)) (stops at at [] (c ∷ cs) fault none (omega arith) front)

reads_from : (k at : ℕ) (text : List ℕ) → length text ≤ k → ReadsAs at text (lexemes_from 0 at text)
reads_from k at [] h = ends at at [] none (omega arith)
reads_from zero at (c ∷ cs) h = absurd (omega arith)
reads_from (suc k) at (c ∷ cs) h =
    reads_piece at c cs (front_at at (c ∷ cs)) refl (front_is at c cs)
    (λ n some. reads_from k (at + n) (drop n (c ∷ cs)) (omega (arith, length-drop n (c ∷ cs))))

-- each text is laid out as its lexemes, or up to its refusal
pub reads_as_lexemes : (text : List ℕ) → ReadsAs 0 text (lexemes text)
reads_as_lexemes text = reads_from (length text) 0 text (omega arith)

-- what is computed of a text is laid out
pub laid_out : (text : List ℕ) (r : Result (List Lexeme) LexFault) → lexemes text ≡ r → ReadsAs 0 text r
laid_out text r e = subst (ReadsAs 0 text) e (reads_as_lexemes text)

pub is_refusal : (text : List ℕ) (fault : LexFault) → lexemes text ≡ Err fault → IsRefusalOf text fault
is_refusal text NoMemory e = tt
is_refusal text (Byte at) e = laid_out text (Err (Byte at)) e
is_refusal text (LongName at) e = laid_out text (Err (LongName at)) e
is_refusal text (Number at) e = laid_out text (Err (Number at)) e
