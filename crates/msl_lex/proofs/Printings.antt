-- The lexemes of a text that is put together from tokens and blanks.
use Rattle.std.proofs.Common.{◌≡◌, ℕ, ◌+◌, ◌-◌, ◌*◌, ◌/◌, ◌%◌, ◌<◌, ◌≤◌, Bool, true, false, not, ◌&&◌, ◌||◌, ◌==◌, List, [], ◌∷◌, ◌++◌, length, map, take, refl, ap, sym, ◌∙◌, Ok, arith, length-append, inl, inr, decimal}
use Rattle.std.specs.Prelude.{nat_le}
use Rattle.std.specs.List.{list_all, list_any}
use Rattle.std.specs.Str.{bytes_eq}
use Rattle.std.proofs.Math.Seq.{take-length}
use Rattle.std.proofs.lemmas.Bool.Decides.{nat_tests}
use Rattle.std.proofs.lemmas.Fmt.{decimal_by_steps}
use Rattle.std.proofs.lemmas.List.Folds.{list_all-append}
use Rattle.std.proofs.lemmas.List.Sums.{fold-append}
use Rattle.msl_lex.specs.declared.token.TokenKind.{TokenKind}
use Rattle.msl_lex.specs.declared.token.TokenKind.TheVariants as kind
use Rattle.msl_lex.specs.Bytes.{is_blank, is_letter, is_digit, is_word_byte, long_signs, starts_long_sign, value_of_digits}
use Rattle.msl_lex.specs.Lexemes.{Form, Lexeme, word, number, sign, close, lexeme, form_of, with_first, longest_name, greatest_number}
use Rattle.msl_lex.specs.Computing.{lexemes_from}
use Rattle.msl_lex.specs.Layout.{none, is_word, is_number, is_sign, IsLongest, IsInLimits}
use Rattle.msl_lex.specs.Layout as layout
use Rattle.msl_lex.specs.Printing.{Bit, token, blank, spelling, text_of, forms_of, is_spellable, may_touch, is_laid, SaysAll}
use Rattle.msl_lex.proofs.Fronts.{no_more, has_length, any_has, either, or_second, signs_split, one_length, one_byte_signs, sign_alone, short_sign, empty}
use Rattle.msl_lex.proofs.Layouts.{laid_out}
use Rattle.msl_lex.proofs.Readings.{both, begins_sign, sign_begins, gap_passed, lexemes_from-token}

-- ---- the first byte of a text

-- there is a first byte, and it passes the test
abbrev begins : (ℕ → Bool) → List ℕ → Bool
begins p [] = false
begins p (c ∷ text) = p c

-- where the bytes of one test fail another, a text that begins with one doesn't begin with the other
begins_other : (p q : ℕ → Bool) → ((c : ℕ) → p c ≡ true → q c ≡ false) → (text more : List ℕ) → begins p text ≡ true → begins q (text ++ more) ≡ false
begins_other p q differ [] more h = cc
begins_other p q differ (c ∷ text) more h = differ c h

-- bytes that pass a test come to nothing, before a text that doesn't begin with one
nothing_more : (p : ℕ → Bool) (after more rest : List ℕ) → begins p after ≡ false → after ≡ more ++ rest → list_all p more ≡ true → more ≡ []
nothing_more p [] [] rest e split h = refl
nothing_more p [] (d ∷ more) rest e split h = cc
nothing_more p (c ∷ after) more rest e split h = no_more p c after more rest e split h

abbrev is_equals : ℕ → Bool
is_equals c = c == 61

-- bytes of one sort are not of another
blank-word_byte : (c : ℕ) → is_blank c ≡ true → is_word_byte c ≡ false
blank-word_byte c h = grind (arith, nat_tests)

blank-digit : (c : ℕ) → is_blank c ≡ true → is_digit c ≡ false
blank-digit c h = grind (arith, nat_tests)

blank-equals : (c : ℕ) → is_blank c ≡ true → is_equals c ≡ false
blank-equals c h = grind (arith, nat_tests)

letter-digit : (c : ℕ) → is_letter c ≡ true → is_digit c ≡ false
letter-digit c h = grind (arith, nat_tests)

letter-equals : (c : ℕ) → is_letter c ≡ true → is_equals c ≡ false
letter-equals c h = grind (arith, nat_tests)

digit-equals : (c : ℕ) → is_digit c ≡ true → is_equals c ≡ false
digit-equals c h = grind (arith, nat_tests)

sign-word_byte : (c : ℕ) → begins_sign c ≡ true → is_word_byte c ≡ false
sign-word_byte c h = grind (arith, nat_tests)

sign-digit : (c : ℕ) → begins_sign c ≡ true → is_digit c ≡ false
sign-digit c h = grind (arith, nat_tests)

-- ---- what the tokens begin with

-- a word begins with a letter, a number with a digit, and a sign with what begins nothing else
word_begins : (w : List ℕ) → is_word w ≡ true → begins is_letter w ≡ true
word_begins [] h = cc
word_begins (c ∷ w) h = (both (is_letter c) (list_all is_word_byte w) h).0

number_begins : (ds : List ℕ) → is_number ds ≡ true → begins is_digit ds ≡ true
number_begins [] h = cc
number_begins (c ∷ ds) h = (both (is_digit c) (list_all is_digit ds) h).0

sign_begins_so : (s : List ℕ) → is_sign s ≡ true → begins begins_sign s ≡ true
sign_begins_so [] h = cc
sign_begins_so (c ∷ s) h = sign_begins c s h

-- ---- numbers

-- these are digits, and their value is the number
record IsNumberOf (n : ℕ) (ds : List ℕ) : Type 0 where
  digits : is_number ds ≡ true
  value : value_of_digits ds ≡ n

-- a digit alone
one_digit : (n : ℕ) → n < 10 → IsNumberOf n ((48 + n) ∷ [])
one_digit n h = record { digits = grind (arith, nat_tests); value = omega arith }

last_digit : (n : ℕ) → is_digit (48 + n % 10) ≡ true
last_digit n = let h : n % 10 < 10 = omega arith in grind (arith, nat_tests)

number_goes_on : (ds : List ℕ) (d : ℕ) → is_number ds ≡ true → is_digit d ≡ true → is_number (ds ++ d ∷ []) ≡ true
number_goes_on [] d h e = cc
number_goes_on (c ∷ ds) d h e = list_all-append is_digit (c ∷ ds) (d ∷ []) ∙ rw (h, e) refl

-- the digits of a tenth, and then the last one
more_digits : (n : ℕ) (ds : List ℕ) → 10 ≤ n → IsNumberOf (n / 10) ds → IsNumberOf n (ds ++ (48 + n % 10) ∷ [])
more_digits n ds h front = record {
  digits = number_goes_on ds (48 + n % 10) front.digits (last_digit n);
  value =
      let sum = fold-append (λ m d. 10 * m + (d - 48)) 0 ds ((48 + n % 10) ∷ []) in
      omega (arith, sum, front.value);
}

-- a number is spelt by digits, which have its value
decimal_is : (n : ℕ) → n ≤ greatest_number → IsNumberOf n (decimal n)
decimal_is n h = decimal_by_steps IsNumberOf one_digit more_digits n (omega arith)

-- ---- what can't go on with a token

-- the token is over before this text
abbrev is_over : Form → List ℕ → Bool
is_over (word w) after = not (begins is_word_byte after)
is_over (number n) after = not (begins is_digit after)
is_over (sign s) after = starts_long_sign s || not (starts_long_sign (s ++ after))
is_over close after = true

-- a test that fails, and its opposite
not_false : (b : Bool) → b ≡ false → not b ≡ true
not_false true h = cc
not_false false h = refl

not_true : (b : Bool) → not b ≡ true → b ≡ false
not_true true h = cc
not_true false h = refl

-- ---- signs

abbrev second_is_equals : List ℕ → Bool
second_is_equals [] = false
second_is_equals (a ∷ s) = begins is_equals s

-- the second byte of a long sign is =
long_second : (a c : ℕ) (text : List ℕ) → starts_long_sign (a ∷ c ∷ text) ≡ true → is_equals c ≡ true
long_second a c text h = any_has second_is_equals (a ∷ c ∷ []) long_signs refl h

-- so no long sign has another there
no_equals-by : (a c : ℕ) (text : List ℕ) (b : Bool) → starts_long_sign (a ∷ c ∷ text) ≡ b → is_equals c ≡ false → b ≡ false
no_equals-by a c text false e other = refl
no_equals-by a c text true e other = let yes = long_second a c text e in cc

-- one byte is no long sign
alone-by : (a : ℕ) (b : Bool) → starts_long_sign (a ∷ []) ≡ b → b ≡ false
alone-by a false e = refl
alone-by a true e = let size = has_length 2 (a ∷ []) long_signs refl e in absurd (omega arith)

alone : (a : ℕ) → starts_long_sign (a ∷ []) ≡ false
alone a = alone-by a (starts_long_sign (a ∷ [])) refl

-- no long sign begins with a sign of one byte and goes on with another byte than =
no_equals : (s after : List ℕ) → length s ≡ 1 → begins is_equals after ≡ false → starts_long_sign (s ++ after) ≡ false
no_equals [] after size other = absurd (omega arith)
no_equals (a ∷ b ∷ s) after size other = absurd (omega arith)
no_equals (a ∷ []) [] size other = alone a
no_equals (a ∷ []) (c ∷ text) size other = no_equals-by a c text (starts_long_sign (a ∷ c ∷ text)) refl other

two_bytes : (s : List ℕ) → length s ≡ 2 → take 2 s ≡ s
two_bytes s h = ap (λ (n : ℕ). take n s) (sym h) ∙ take-length s

-- a long sign is over whatever comes next
long_over : (s after : List ℕ) → list_any (bytes_eq s) long_signs ≡ true → is_over (sign s) after ≡ true
long_over s after long =
    let whole : take 2 s ≡ s = two_bytes s (has_length 2 s long_signs refl long) in
    let starts : starts_long_sign s ≡ true = ap (λ (t : List ℕ). list_any (bytes_eq t) long_signs) whole ∙ long in
    rw starts refl

-- a sign is over before what doesn't begin with =
sign_over : (s after : List ℕ) → is_sign s ≡ true → begins is_equals after ≡ false → is_over (sign s) after ≡ true
sign_over s after h other =
    elim (either (list_any (bytes_eq s) long_signs) (list_any (bytes_eq s) one_byte_signs) (sym (signs_split s) ∙ h)) [
      | inl long ↦ long_over s after long
      | inr short ↦ or_second (starts_long_sign s) (not (starts_long_sign (s ++ after))) (not_false (starts_long_sign (s ++ after)) (no_equals s after (one_length s short) other))
    ]

-- whether a sign of one byte is over before another sign, that one's first byte says
short_touches : (s t after : List ℕ) → length s ≡ 1 → is_sign t ≡ true → may_touch (sign s) (sign t) ≡ true → is_over (sign s) (t ++ after) ≡ true
short_touches [] t after size h touch = absurd (omega arith)
short_touches (a ∷ b ∷ s) t after size h touch = absurd (omega arith)
short_touches (a ∷ []) [] after size h touch = cc
short_touches (a ∷ []) (d ∷ t) after size h touch = touch

-- a sign is over before a sign that may touch it
sign_touches : (s t after : List ℕ) → is_sign s ≡ true → is_sign t ≡ true → may_touch (sign s) (sign t) ≡ true → is_over (sign s) (t ++ after) ≡ true
sign_touches s t after h h2 touch =
    elim (either (list_any (bytes_eq s) long_signs) (list_any (bytes_eq s) one_byte_signs) (sym (signs_split s) ∙ h)) [
      | inl long ↦ long_over s (t ++ after) long
      | inr short ↦ short_touches s t after (one_length s short) h2 touch
    ]

-- ---- a token is over before what comes after it

-- at the end of the text
over_end : (f : Form) → is_spellable f ≡ true → is_over f [] ≡ true
over_end (word w) h = refl
over_end (number n) h = refl
over_end (sign s) h = sign_over s [] h refl
over_end close h = refl

-- before a blank
over_blank : (f : Form) (c : ℕ) (after : List ℕ) → is_spellable f ≡ true → is_blank c ≡ true → is_over f (c ∷ after) ≡ true
over_blank (word w) c after h e = not_false (is_word_byte c) (blank-word_byte c e)
over_blank (number n) c after h e = not_false (is_digit c) (blank-digit c e)
over_blank (sign s) c after h e = sign_over s (c ∷ after) h (blank-equals c e)
over_blank close c after h e = refl

-- a word's and a number's first byte, by their being spelt
word_starts : (w : List ℕ) → is_spellable (word w) ≡ true → begins is_letter w ≡ true
word_starts w h = word_begins w (both (is_word w) (nat_le (length w) longest_name) h).0

number_limit : (n : ℕ) → is_spellable (number n) ≡ true → n ≤ greatest_number
number_limit n h = grind (arith, nat_tests)

number_starts : (n : ℕ) → is_spellable (number n) ≡ true → begins is_digit (decimal n) ≡ true
number_starts n h = number_begins (decimal n) (decimal_is n (number_limit n h)).digits

-- before a token that may touch it
over_token : (f g : Form) (after : List ℕ) → is_spellable f ≡ true → is_spellable g ≡ true → may_touch f g ≡ true → is_over f (spelling g ++ after) ≡ true
over_token f close after h h2 touch = cc
over_token close g after h h2 touch = cc
over_token (word v) (word w) after h h2 touch = cc
over_token (word v) (number n) after h h2 touch = cc
over_token (word v) (sign t) after h h2 touch = not_false (begins is_word_byte (t ++ after)) (begins_other begins_sign is_word_byte sign-word_byte t after (sign_begins_so t h2))
over_token (number m) (word w) after h h2 touch = not_false (begins is_digit (w ++ after)) (begins_other is_letter is_digit letter-digit w after (word_starts w h2))
over_token (number m) (number n) after h h2 touch = cc
over_token (number m) (sign t) after h h2 touch = not_false (begins is_digit (t ++ after)) (begins_other begins_sign is_digit sign-digit t after (sign_begins_so t h2))
over_token (sign s) (word w) after h h2 touch = sign_over s (w ++ after) h (begins_other is_letter is_equals letter-equals w after (word_starts w h2))
over_token (sign s) (number n) after h h2 touch = sign_over s (decimal n ++ after) h (begins_other is_digit is_equals digit-equals (decimal n) after (number_starts n h2))
over_token (sign s) (sign t) after h h2 touch = sign_touches s t after h h2 touch

-- a laid text's first token can be spelt
token_spellable : (g : Form) (bits : List Bit) → is_laid (token g ∷ bits) ≡ true → is_spellable g ≡ true
token_spellable g [] h = (both (is_spellable g) true h).0
token_spellable g (blank c ∷ bits) h = (both (is_spellable g) (is_laid (blank c ∷ bits)) h).0
token_spellable g (token f ∷ bits) h = (both (is_spellable g) (may_touch g f) (both (is_spellable g && may_touch g f) (is_laid (token f ∷ bits)) h).0).0

-- the first token of a laid text: it is over before the others, which are laid too
record IsFirstLaid (f : Form) (bits : List Bit) : Type 0 where
  spelt : is_spellable f ≡ true
  over : is_over f (text_of bits) ≡ true
  later : is_laid bits ≡ true

-- a laid text's first token is over before what comes next, be it the end, a blank or a token
first_laid : (f : Form) (bits : List Bit) → is_laid (token f ∷ bits) ≡ true → IsFirstLaid f bits
first_laid f [] h =
    let parts = both (is_spellable f) true h in
    record { spelt = parts.0; over = over_end f parts.0; later = refl }
first_laid f (blank c ∷ bits) h =
    let parts = both (is_spellable f) (is_laid (blank c ∷ bits)) h in
    let blanks = both (is_blank c) (is_laid bits) parts.1 in
    record { spelt = parts.0; over = over_blank f c (text_of bits) parts.0 blanks.0; later = parts.1 }
first_laid f (token g ∷ bits) h =
    let parts = both (is_spellable f && may_touch f g) (is_laid (token g ∷ bits)) h in
    let first = both (is_spellable f) (may_touch f g) parts.0 in
    record { spelt = first.0; over = over_token f g (text_of bits) first.0 (token_spellable g bits parts.1) first.1; later = parts.1 }

-- ---- the longest spelling is the token's

-- the token is spelt by the longest spelling of its kind, which says just it
record IsSaidLongest (f : Form) (after : List ℕ) : Type 0 where
  of_kind : TokenKind
  longest : IsLongest of_kind (spelling f) after
  limits : IsInLimits of_kind (spelling f)
  says : form_of of_kind (spelling f) ≡ f

-- what goes on with a word is word bytes
word_rest : (w more : List ℕ) → is_word w ≡ true → is_word (w ++ more) ≡ true → list_all is_word_byte more ≡ true
word_rest [] more h h2 = cc
word_rest (c ∷ w) more h h2 =
    let rest = (both (is_letter c) (list_all is_word_byte (w ++ more)) h2).1 in
    (both (list_all is_word_byte w) (list_all is_word_byte more) (sym (list_all-append is_word_byte w more) ∙ rest)).1

-- so a word is the longest before what doesn't begin with a word byte
word_longest : (w after : List ℕ) → is_word w ≡ true → begins is_word_byte after ≡ false → IsLongest kind.Word w after
word_longest w after h over = record { is_one = h; longest = λ more rest split h2. nothing_more is_word_byte after more rest over split (word_rest w more h h2) }

-- what goes on with a number is digits
number_rest : (ds more : List ℕ) → is_number ds ≡ true → is_number (ds ++ more) ≡ true → list_all is_digit more ≡ true
number_rest [] more h h2 = cc
number_rest (c ∷ ds) more h h2 = (both (list_all is_digit (c ∷ ds)) (list_all is_digit more) (sym (list_all-append is_digit (c ∷ ds) more) ∙ h2)).1

-- so a number is the longest before what doesn't begin with a digit
number_longest : (ds after : List ℕ) → is_number ds ≡ true → begins is_digit after ≡ false → IsLongest kind.Number ds after
number_longest ds after h over = record { is_one = h; longest = λ more rest split h2. nothing_more is_digit after more rest over split (number_rest ds more h h2) }

-- no sign is longer than a long one
long_longest : (s after : List ℕ) → is_sign s ≡ true → list_any (bytes_eq s) long_signs ≡ true → IsLongest kind.Sign s after
long_longest s after h long =
    let size : length s ≡ 2 = has_length 2 s long_signs refl long in
    record { is_one = h; longest = λ more rest split h2. let most = short_sign (s ++ more) h2 in empty more (omega (arith, size, most, length-append s more)) }

-- a sign of one byte is the longest where no long sign stands
short_longest : (s after : List ℕ) → is_sign s ≡ true → length s ≡ 1 → is_over (sign s) after ≡ true → IsLongest kind.Sign s after
short_longest [] after h size over = absurd (omega arith)
short_longest (a ∷ b ∷ s) after h size over = absurd (omega arith)
short_longest (a ∷ []) after h size over =
    let no_long : starts_long_sign (a ∷ after) ≡ false = not_true (starts_long_sign (a ∷ after)) (rw (alone a) at over) in
    record { is_one = h; longest = λ more rest split h2. let same = (sign_alone a after no_long (a ∷ more) rest (ap (λ (t : List ℕ). a ∷ t) split) h2).0 in cc }

sign_longest : (s after : List ℕ) → is_sign s ≡ true → is_over (sign s) after ≡ true → IsLongest kind.Sign s after
sign_longest s after h over =
    elim (either (list_any (bytes_eq s) long_signs) (list_any (bytes_eq s) one_byte_signs) (sym (signs_split s) ∙ h)) [
      | inl long ↦ long_longest s after h long
      | inr short ↦ short_longest s after h (one_length s short) over
    ]

word_limit : (w : List ℕ) → nat_le (length w) longest_name ≡ true → length w ≤ longest_name
word_limit w h = grind (arith, nat_tests)

token_longest : (f : Form) (after : List ℕ) → is_spellable f ≡ true → is_over f after ≡ true → IsSaidLongest f after
token_longest close after h over = cc
token_longest (word w) after h over =
    let parts = both (is_word w) (nat_le (length w) longest_name) h in
    record { of_kind = kind.Word; longest = word_longest w after parts.0 (not_true (begins is_word_byte after) over); limits = word_limit w parts.1; says = refl }
token_longest (number n) after h over =
    let fits = number_limit n h in
    let spelt = decimal_is n fits in
    record { of_kind = kind.Number; longest = number_longest (decimal n) after spelt.digits (not_true (begins is_digit after) over); limits = omega (arith, spelt.value); says = ap number spelt.value }
token_longest (sign s) after h over = record { of_kind = kind.Sign; longest = sign_longest s after h over; limits = tt; says = refl }

-- ---- the lexemes of a laid text

-- from a place on, the text has just these tokens, and its end
record SaysFrom (at : ℕ) (bits : List Bit) : Type 0 where
  tokens : List Lexeme
  said : lexemes_from 0 at (text_of bits) ≡ Ok tokens
  forms : map (λ t. t.form) tokens ≡ forms_of bits ++ close ∷ []

-- one more token in front, which is over before the others
says_token : (at : ℕ) (f : Form) (bits : List Bit) → IsSaidLongest f (text_of bits) → SaysFrom (at + length (spelling f)) bits → SaysFrom at (token f ∷ bits)
says_token at f bits one others =
    let s = spelling f in
    let end = at + length s in
    record {
      tokens = lexeme (form_of one.of_kind s) at end ∷ others.tokens;
      said = lexemes_from-token at end one.of_kind s (text_of bits) one.longest one.limits refl ∙ ap (with_first (lexeme (form_of one.of_kind s) at end)) others.said;
      forms = ap (λ (g : Form). g ∷ map (λ t. t.form) others.tokens) one.says ∙ ap (λ (fs : List Form). f ∷ fs) others.forms;
    }

says_from : (at : ℕ) (bits : List Bit) → is_laid bits ≡ true → SaysFrom at bits
says_from at [] h = record { tokens = lexeme close at at ∷ []; said = refl; forms = refl }
says_from at (blank c ∷ bits) h =
    let parts = both (is_blank c) (is_laid bits) h in
    let others = says_from (at + 1) bits parts.1 in
    record {
      tokens = others.tokens;
      said = gap_passed (text_of bits) (layout.blank c [] parts.0 none) at ∙ others.said;
      forms = others.forms;
    }
says_from at (token f ∷ bits) h =
    let first = first_laid f bits h in
    says_token at f bits (token_longest f (text_of bits) first.spelt first.over) (says_from (at + length (spelling f)) bits first.later)

-- the lexemes of a laid text are just its tokens, and its end
pub laid_says_all : (bits : List Bit) → is_laid bits ≡ true → SaysAll bits
laid_says_all bits h = let all = says_from 0 bits h in record { tokens = all.tokens; said = laid_out (text_of bits) (Ok all.tokens) all.said; forms = all.forms }
