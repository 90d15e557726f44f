-- A text is laid out in one way.
use Rattle.std.proofs.Common.{◌≡◌, ◌≢◌, ℕ, suc, ◌+◌, ◌<◌, ◌≤◌, Bool, true, false, ◌&&◌, ◌||◌, ◌==◌, List, [], ◌∷◌, ◌++◌, length, take, drop, refl, ap, sym, ◌∙◌, Result, Ok, Err, arith, append_assoc, length-append, add-zero, append-nil}
use Rattle.std.proofs.lemmas.List.{take_at, drop_at, take-append-drop}
use Rattle.std.proofs.lemmas.List.Folds.{list_all-append}
use Rattle.std.proofs.lemmas.Bool.Decides.{nat_tests}
use Rattle.std.specs.List.{prefix_len, list_all, list_any}
use Rattle.std.specs.Str.{bytes_eq}
use Rattle.msl_lex.specs.Computing as computing
use Rattle.msl_lex.specs.declared.token.TokenKind.{TokenKind}
use Rattle.msl_lex.specs.declared.token.TokenKind.TheVariants as kind
use Rattle.msl_lex.specs.declared.token.LexFault.{LexFault}
use Rattle.msl_lex.specs.declared.token.LexFault.TheVariants.{Byte, LongName, Number}
use Rattle.msl_lex.specs.Bytes.{is_blank, is_letter, is_digit, is_word_byte, is_comment_byte, is_short_sign, long_signs, signs, value_of_digits}
use Rattle.msl_lex.specs.Lexemes.{Lexeme, lexeme, close, form_of, with_first, longest_name, greatest_number}
use Rattle.msl_lex.specs.Computing.{front_at, word_at, number_at, sign_at, lexemes_from}
use Rattle.msl_lex.specs.Layout.{EndsLine, IsGap, none, blank, comment, is_sign, spells, IsLongest, IsInLimits, IsFault, no_token, long_name, great_number, ReadsAs, ends, goes, stops}
use Rattle.msl_lex.specs.Pieces.{IsWithin}
use Rattle.msl_lex.proofs.Fronts.{prefix_len-first, any_has, has_length, one_length, one_byte_signs, either, signs_split, is_short, short_test}
use Rattle.msl_lex.proofs.Within.{has_byte}
use Rattle.msl_lex.proofs.Numbers.{number_fits, number_too_great}
use Rattle.std.proofs.Common.{inl, inr, not}
use Rattle.std.proofs.Math.Seq.{take-length}
use Rattle.std.specs.Prelude.{nat_lt, if◌then◌else◌}
use Rattle.msl_lex.proofs.Steps.{behind, lexemes_from-piece, lexemes_from-refused}

-- the text behind its first piece
pub behind-append : (at n : ℕ) (front after : List ℕ) → length front ≡ n → behind at (front ++ after) n ≡ lexemes_from 0 (at + n) after
behind-append at n front after e = ap (lexemes_from 0 (at + n)) (drop_at front after n e)

-- a run of bytes that pass, before one that doesn't
module _ (p : ℕ → Bool) where
  run-by : (x : ℕ) (xs after : List ℕ) (b : Bool) → p x ≡ b → (list_all p xs ≡ true → prefix_len p (xs ++ after) ≡ length xs) → list_all p (x ∷ xs) ≡ true → prefix_len p ((x ∷ xs) ++ after) ≡ length (x ∷ xs)
  run-by x xs after true e ih all = prefix_len-first p x (xs ++ after) e ∙ ap suc (ih (rw e at all))
  run-by x xs after false e ih all = let never = rw e at all in cc

  pub prefix_len-run : (xs after : List ℕ) → prefix_len p after ≡ 0 → list_all p xs ≡ true → prefix_len p (xs ++ after) ≡ length xs
  prefix_len-run [] after e all = e
  prefix_len-run (x ∷ xs) after e all = run-by x xs after (p x) refl (prefix_len-run xs after e) all

  stops-by : (c : ℕ) (after : List ℕ) (b : Bool) → p c ≡ b → (p c ≡ true → ⊥) → prefix_len p (c ∷ after) ≡ 0
  stops-by c after true e never = absurd (never e)
  stops-by c after false e never = rw e refl

  pub prefix_len-stops : (after : List ℕ) → ((c : ℕ) (rest : List ℕ) → after ≡ c ∷ rest → p c ≡ true → ⊥) → prefix_len p after ≡ 0
  prefix_len-stops [] never = refl
  prefix_len-stops (c ∷ after) never = stops-by c after (p c) refl (never c after refl)

-- ---- gaps

line_over : (after : List ℕ) → EndsLine after → prefix_len is_comment_byte after ≡ 0
line_over [] e = refl
line_over (c ∷ after) e = rw e refl

comment_piece : (at : ℕ) (inside after : List ℕ) → list_all is_comment_byte inside ≡ true → EndsLine after → front_at at (35 ∷ (inside ++ after)) ≡ Ok (computing.gap (suc (length inside)))
comment_piece at inside after all e =
    let n = prefix_len-first is_comment_byte 35 (inside ++ after) refl ∙ ap suc (prefix_len-run is_comment_byte inside after (line_over after e) all) in
    ap (λ (k : ℕ). Ok (computing.gap k)) n

blank_piece : (at c : ℕ) (cs : List ℕ) → is_blank c ≡ true → front_at at (c ∷ cs) ≡ Ok (computing.gap 1)
blank_piece at c cs e = rw e refl

pub gap_passed : (after : List ℕ) {gap : List ℕ} → IsGap after gap → (at : ℕ) → lexemes_from 0 at (gap ++ after) ≡ lexemes_from 0 (at + length gap) after
gap_passed after none at = rw add-zero refl
gap_passed after (blank c gap e g) at =
    let text : List ℕ = c ∷ (gap ++ after) in
    let place : at + 1 + length gap ≡ at + suc (length gap) = omega arith in
    lexemes_from-piece (computing.gap 1) at text (blank_piece at c (gap ++ after) e) (omega arith, omega arith) ∙ (gap_passed after g (at + 1) ∙ ap (λ (k : ℕ). lexemes_from 0 k after) place)
gap_passed after (comment inside gap all line g) at =
    let n = suc (length inside) in
    let text : List ℕ = 35 ∷ (inside ++ (gap ++ after)) in
    let place : at + n + length gap ≡ at + length (35 ∷ (inside ++ gap)) = omega (arith, length-append inside gap) in
    ap (λ (t : List ℕ). lexemes_from 0 at (35 ∷ t)) (append_assoc inside gap after) ∙ (lexemes_from-piece (computing.gap n) at text (comment_piece at inside (gap ++ after) all line) (omega arith, omega (arith, length-append inside (gap ++ after))) ∙ (behind-append at n (35 ∷ inside) (gap ++ after) refl ∙ (gap_passed after g (at + n) ∙ ap (λ (k : ℕ). lexemes_from 0 k after) place)))

-- ---- tokens

pub both : (a b : Bool) → (a && b) ≡ true → (a ≡ true) × (b ≡ true)
both true b h = (refl, h)
both false b h = cc

letter_alone : (c : ℕ) → is_letter c ≡ true → (is_blank c ≡ false) × ((c == 35) ≡ false)
letter_alone c h = (grind (arith, nat_tests), grind (arith, nat_tests))

digit_alone : (c : ℕ) → is_digit c ≡ true → (is_blank c ≡ false) × ((c == 35) ≡ false) × (is_letter c ≡ false)
digit_alone c h = (grind (arith, nat_tests), grind (arith, nat_tests), grind (arith, nat_tests))

-- no byte of the run comes after the longest
module _ (p : ℕ → Bool) (k : TokenKind) (c : ℕ) (s after : List ℕ) where
  run_is_over : (list_all p s ≡ true) → ((t : List ℕ) → list_all p t ≡ true → spells k (c ∷ t) ≡ true) → IsLongest k (c ∷ s) after → prefix_len p after ≡ 0
  run_is_over all to longest =
      prefix_len-stops p after
      (λ d rest e h.
      let more : list_all p (s ++ d ∷ []) ≡ true = list_all-append p s (d ∷ []) ∙ rw (all, h) refl in
      let none_more = longest.longest (d ∷ []) rest e (to (s ++ d ∷ []) more) in
      cc)

number_by_digits : (at : ℕ) (text digits : List ℕ) → take (length digits) text ≡ digits → number_at at (length digits) text ≡ number_at at (length digits) digits
number_by_digits at text digits e =
    let n = length digits in
    let same : take n text ≡ take n digits = e ∙ sym (take-length digits) in
    ap (λ (t : List ℕ). if nat_lt greatest_number (value_of_digits t) then Err (Number at) else Ok (computing.token kind.Number n)) same

and_true : (b : Bool) → (b && true) ≡ b
and_true true = refl
and_true false = refl

neither : (a b : Bool) → (a || b) ≡ false → (a ≡ false) × (b ≡ false)
neither true b h = cc
neither false b h = (refl, h)

not_mark : (c : ℕ) → c ≢ 35 → (c == 35) ≡ false
not_mark c h = grind (arith, nat_tests)

-- by the first byte
module _ (at c : ℕ) (cs : List ℕ) (blank_not : is_blank c ≡ false) (mark_not : (c == 35) ≡ false) where
  at_letter : is_letter c ≡ true → front_at at (c ∷ cs) ≡ word_at at (prefix_len is_word_byte (c ∷ cs))
  at_letter letter = rw (blank_not, mark_not, letter) refl

  at_digit : is_letter c ≡ false → is_digit c ≡ true → front_at at (c ∷ cs) ≡ number_at at (prefix_len is_digit (c ∷ cs)) (c ∷ cs)
  at_digit letter digit = rw (blank_not, mark_not, letter, digit) refl

  at_other : is_letter c ≡ false → is_digit c ≡ false → front_at at (c ∷ cs) ≡ sign_at at c (c ∷ cs)
  at_other letter digit = rw (blank_not, mark_not, letter, digit) refl

word_piece : (at : ℕ) (s after : List ℕ) → IsLongest kind.Word s after → front_at at (s ++ after) ≡ word_at at (length s)
word_piece at [] after longest = let never = longest.is_one in cc
word_piece at (c ∷ s) after longest =
    let parts = both (is_letter c) (list_all is_word_byte s) longest.is_one in
    let alone = letter_alone c parts.0 in
    let over = run_is_over is_word_byte kind.Word c s after parts.1 (λ t h. rw (parts.0, h) refl) longest in
    let n : prefix_len is_word_byte (c ∷ (s ++ after)) ≡ length (c ∷ s) = prefix_len-run is_word_byte (c ∷ s) after over (rw (parts.0, parts.1) refl) in
    at_letter at c (s ++ after) alone.0 alone.1 parts.0 ∙ ap (word_at at) n

number_piece : (at : ℕ) (s after : List ℕ) → IsLongest kind.Number s after → front_at at (s ++ after) ≡ number_at at (length s) s
number_piece at [] after longest = let never = longest.is_one in cc
number_piece at (c ∷ s) after longest =
    let parts = both (is_digit c) (list_all is_digit s) longest.is_one in
    let alone = digit_alone c parts.0 in
    let over = run_is_over is_digit kind.Number c s after parts.1 (λ t h. rw (parts.0, h) refl) longest in
    let n : prefix_len is_digit (c ∷ (s ++ after)) ≡ length (c ∷ s) = prefix_len-run is_digit (c ∷ s) after over (rw (parts.0, parts.1) refl) in
    let value = number_by_digits at (c ∷ (s ++ after)) (c ∷ s) (take_at (c ∷ s) after (length (c ∷ s)) refl) in
    at_digit at c (s ++ after) alone.0 alone.1 alone.2 parts.0 ∙ (ap (λ k. number_at at k (c ∷ (s ++ after))) n ∙ value)

-- ---- signs

-- what begins nothing but a sign
abbrev pub begins_sign : ℕ → Bool
begins_sign c = not (is_blank c || c == 35 || is_letter c || is_digit c)

abbrev first_begins : List ℕ → Bool
first_begins [] = false
first_begins (c ∷ s) = begins_sign c

none_of : (a b c d : Bool) → not (a || b || c || d) ≡ true → (a ≡ false) × (b ≡ false) × (c ≡ false) × (d ≡ false)
none_of false false false false h = (refl, refl, refl, refl)
none_of true b c d h = cc
none_of false true c d h = cc
none_of false false true d h = cc
none_of false false false true h = cc

pub sign_begins : (c : ℕ) (s : List ℕ) → is_sign (c ∷ s) ≡ true → begins_sign c ≡ true
sign_begins c s h = any_has first_begins (c ∷ s) signs refl h

sign_other : (at c : ℕ) (s cs : List ℕ) → is_sign (c ∷ s) ≡ true → front_at at (c ∷ cs) ≡ sign_at at c (c ∷ cs)
sign_other at c s cs h =
    let parts = none_of (is_blank c) (c == 35) (is_letter c) (is_digit c) (sign_begins c s h) in
    at_other at c cs parts.0 parts.1 parts.2 parts.3

long_sign_at : (at c : ℕ) (cs s : List ℕ) → take 2 (c ∷ cs) ≡ s → list_any (bytes_eq s) long_signs ≡ true → sign_at at c (c ∷ cs) ≡ Ok (computing.token kind.Sign 2)
long_sign_at at c cs s e h =
    let long : list_any (bytes_eq (take 2 (c ∷ cs))) long_signs ≡ true = ap (λ (t : List ℕ). list_any (bytes_eq t) long_signs) e ∙ h in
    rw long refl

short_sign_at : (at c : ℕ) (cs : List ℕ) → list_any (bytes_eq (take 2 (c ∷ cs))) long_signs ≡ false → is_short_sign c ≡ true → sign_at at c (c ∷ cs) ≡ Ok (computing.token kind.Sign 1)
short_sign_at at c cs no_long short = rw (no_long, short) refl

-- where a sign of one byte is the longest, no long sign stands there
no_long_by : (c : ℕ) (after : List ℕ) → IsLongest kind.Sign (c ∷ []) after → (b : Bool) → list_any (bytes_eq (take 2 (c ∷ after))) long_signs ≡ b → b ≡ false
no_long_by c after longest false e = refl
no_long_by c [] longest true e = let size = has_length 2 (c ∷ []) long_signs refl e in absurd (omega arith)
no_long_by c (d ∷ after) longest true e =
    let sign : is_sign (c ∷ d ∷ []) ≡ true = signs_split (c ∷ d ∷ []) ∙ rw e refl in
    let none_more = longest.longest (d ∷ []) after refl sign in
    cc

short_piece : (at : ℕ) (s after : List ℕ) → length s ≡ 1 → list_any (bytes_eq s) one_byte_signs ≡ true → IsLongest kind.Sign s after → front_at at (s ++ after) ≡ Ok (computing.token kind.Sign 1)
short_piece at [] after size h longest = absurd (omega arith)
short_piece at (c ∷ d ∷ s) after size h longest = absurd (omega arith)
short_piece at (c ∷ []) after size h longest =
    let no_long = no_long_by c after longest (list_any (bytes_eq (take 2 (c ∷ after))) long_signs) refl in
    sign_other at c [] after longest.is_one ∙ short_sign_at at c after no_long (is_short c h)

long_piece : (at : ℕ) (s after : List ℕ) → length s ≡ 2 → list_any (bytes_eq s) long_signs ≡ true → IsLongest kind.Sign s after → front_at at (s ++ after) ≡ Ok (computing.token kind.Sign 2)
long_piece at [] after size h longest = absurd (omega arith)
long_piece at (c ∷ s) after size h longest = sign_other at c s (s ++ after) longest.is_one ∙ long_sign_at at c (s ++ after) (c ∷ s) (take_at (c ∷ s) after 2 size) h

sign_piece : (at : ℕ) (s after : List ℕ) → IsLongest kind.Sign s after → front_at at (s ++ after) ≡ Ok (computing.token kind.Sign (length s))
sign_piece at s after longest =
    elim (either (list_any (bytes_eq s) long_signs) (list_any (bytes_eq s) one_byte_signs) (sym (signs_split s) ∙ longest.is_one)) [
      | inl long ↦ let size = has_length 2 s long_signs refl long in long_piece at s after size long longest ∙ ap (λ (k : ℕ). Ok (computing.token kind.Sign k)) (sym size)
      | inr short ↦ let size = one_length s short in short_piece at s after size short longest ∙ ap (λ (k : ℕ). Ok (computing.token kind.Sign k)) (sym size)
    ]

-- ---- the first piece by the layout

word_fits : (at n : ℕ) → n ≤ longest_name → word_at at n ≡ Ok (computing.token kind.Word n)
word_fits at n h = grind (arith, nat_tests)

word_too_long : (at n : ℕ) → longest_name < n → word_at at n ≡ Err (LongName at)
word_too_long at n h = grind (arith, nat_tests)

pub token_piece : (at : ℕ) (k : TokenKind) (s after : List ℕ) → IsLongest k s after → IsInLimits k s → front_at at (s ++ after) ≡ Ok (computing.token k (length s))
token_piece at kind.Word s after longest h = word_piece at s after longest ∙ word_fits at (length s) h
token_piece at kind.Number s after longest h = number_piece at s after longest ∙ number_fits at (length s) (value_of_digits s) s (ap value_of_digits (sym (take-length s))) h
token_piece at kind.Sign s after longest h = sign_piece at s after longest
token_piece at kind.Close s after longest h = let never = longest.is_one in cc

module _ (at c : ℕ) (cs : List ℕ) (never : (k : TokenKind) (s rest : List ℕ) → c ∷ cs ≡ s ++ rest → spells k s ≡ false) where
  no_letter : is_letter c ≡ false
  no_letter = sym (and_true (is_letter c)) ∙ never kind.Word (c ∷ []) cs refl

  no_digit : is_digit c ≡ false
  no_digit = sym (and_true (is_digit c)) ∙ never kind.Number (c ∷ []) cs refl

  no_long : list_any (bytes_eq (take 2 (c ∷ cs))) long_signs ≡ false
  no_long = (neither (list_any (bytes_eq (take 2 (c ∷ cs))) long_signs) (list_any (bytes_eq (take 2 (c ∷ cs))) one_byte_signs) (sym (signs_split (take 2 (c ∷ cs))) ∙ never kind.Sign (take 2 (c ∷ cs)) (drop 2 (c ∷ cs)) (sym (take-append-drop 2 (c ∷ cs))))).0

  no_short : is_short_sign c ≡ false
  no_short = sym (short_test c) ∙ (neither (list_any (bytes_eq (c ∷ [])) long_signs) (list_any (bytes_eq (c ∷ [])) one_byte_signs) (sym (signs_split (c ∷ [])) ∙ never kind.Sign (c ∷ []) cs refl)).1

  byte_piece : is_blank c ≡ false → c ≢ 35 → front_at at (c ∷ cs) ≡ Err (Byte at)
  byte_piece not_blank mark = at_other at c cs not_blank (not_mark c mark) no_letter no_digit ∙ rw (no_long, no_short) refl

pub fault_piece : (at : ℕ) {after : List ℕ} {fault : LexFault} → IsFault at after fault → front_at at after ≡ Err fault
fault_piece at (no_token c cs not_blank mark never) = byte_piece at c cs never not_blank mark
fault_piece at (long_name s rest longest h) = word_piece at s rest longest ∙ word_too_long at (length s) h
fault_piece at (great_number s rest longest h) = number_piece at s rest longest ∙ number_too_great at (length s) (length s) (value_of_digits s) s (omega arith) (ap value_of_digits (sym (take-length s))) h

fault_has_byte : (at : ℕ) {after : List ℕ} {fault : LexFault} → IsFault at after fault → 0 < length after
fault_has_byte at (no_token c cs not_blank mark never) = omega arith
fault_has_byte at (long_name s rest longest h) = omega (arith, has_byte kind.Word s longest.is_one, length-append s rest)
fault_has_byte at (great_number s rest longest h) = omega (arith, has_byte kind.Number s longest.is_one, length-append s rest)

-- the lexemes of a token's spelling and what comes after it
pub lexemes_from-token : (from to : ℕ) (k : TokenKind) (s rest : List ℕ) → IsLongest k s rest → IsInLimits k s → to ≡ from + length s → lexemes_from 0 from (s ++ rest) ≡ with_first (lexeme (form_of k s) from to) (lexemes_from 0 to rest)
lexemes_from-token from to k s rest longest limits e =
    let n = length s in
    let within : IsWithin (s ++ rest) (computing.token k n) = (has_byte k s longest.is_one, omega (arith, length-append s rest)) in
    let spelt : lexeme (form_of k (take n (s ++ rest))) from (from + n) ≡ lexeme (form_of k s) from to = ap (λ (t : List ℕ). lexeme (form_of k t) from (from + n)) (take_at s rest n refl) ∙ ap (λ (m : ℕ). lexeme (form_of k s) from m) (sym e) in
    let later : behind from (s ++ rest) n ≡ lexemes_from 0 to rest = behind-append from n s rest refl ∙ ap (λ (m : ℕ). lexemes_from 0 m rest) (sym e) in
    lexemes_from-piece (computing.token k n) from (s ++ rest) (token_piece from k s rest longest limits) within ∙ (ap (λ (t : Lexeme). with_first t (behind from (s ++ rest) n)) spelt ∙ ap (with_first (lexeme (form_of k s) from to)) later)

pub lexemes_from-layout : {at : ℕ} {text : List ℕ} {r : Result (List Lexeme) LexFault} → ReadsAs at text r → lexemes_from 0 at text ≡ r
lexemes_from-layout (ends at end gap g e) =
    ap (lexemes_from 0 at) (sym (append-nil gap)) ∙ (gap_passed [] g at ∙ ap (λ (n : ℕ). Ok (lexeme close n n ∷ [])) (sym e))
lexemes_from-layout (goes at from to k gap s rest others g e longest limits e2 more) =
    gap_passed (s ++ rest) g at ∙ (ap (λ (n : ℕ). lexemes_from 0 n (s ++ rest)) (sym e) ∙ (lexemes_from-token from to k s rest longest limits e2 ∙ ap (with_first (lexeme (form_of k s) from to)) (lexemes_from-layout more)))
lexemes_from-layout (stops at from gap after fault g e f) =
    gap_passed after g at ∙ (ap (λ (n : ℕ). lexemes_from 0 n after) (sym e) ∙ lexemes_from-refused from after fault (fault_has_byte from f) (fault_piece from f))
