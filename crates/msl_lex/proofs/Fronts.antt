-- What stands at the front of a text, in the words of its layout.
use Rattle.std.proofs.Common.{◌≡◌, ◌≢◌, ℕ, suc, ◌<◌, ◌≤◌, Bool, true, false, ◌&&◌, cond, List, [], ◌∷◌, ◌++◌, length, take, drop, refl, ap, sym, subst, ◌∙◌, Result, Ok, Err, arith}
use Rattle.std.specs.List.{prefix_len, list_all, list_any}
use Rattle.std.proofs.lemmas.Bool.Decides.{nat_tests}
use Rattle.std.proofs.lemmas.List.{take-append-drop, length-take-le, take_at, length-take, length-append}
use Rattle.std.proofs.lemmas.List.Sums.{prefix_len-le-length}
use Rattle.std.specs.Prelude.{nat_lt, nat_le, map, if◌then◌else◌, ◌⊎◌, ◌==◌, ◌||◌}
use Rattle.std.specs.Str.{bytes_eq}
use Rattle.std.proofs.lemmas.Slice.Eq.{bytes_eq-Decides}
use Rattle.std.proofs.lemmas.List.Folds.{list_any-append}
use Rattle.std.proofs.Common.{inl, inr}
use Rattle.msl_lex.specs.Computing.{Front, front_at, word_at, number_at, sign_at}
use Rattle.msl_lex.specs.Computing as computing
use Rattle.msl_lex.specs.declared.token.TokenKind.{TokenKind}
use Rattle.msl_lex.specs.declared.token.TokenKind.TheVariants as kind
use Rattle.msl_lex.specs.declared.token.LexFault.{LexFault}
use Rattle.msl_lex.specs.declared.token.LexFault.TheVariants.{Byte, LongName, Number}
use Rattle.msl_lex.specs.Bytes.{is_blank, is_letter, is_digit, is_word_byte, is_comment_byte, is_short_sign, long_signs, short_signs, signs, value_of_digits}
use Rattle.msl_lex.specs.Lexemes.{longest_name, greatest_number}
use Rattle.msl_lex.specs.Layout.{EndsLine, is_word, is_number, is_sign, spells, IsLongest, IsInLimits, IsFault, no_token, long_name, great_number}
use Rattle.msl_lex.specs.Pieces.{IsWithin}

-- a choice has what each side has
pub if_by : {R : Type 0} (P : R → Type 0) (b : Bool) (x y : R) → (b ≡ true → P x) → (b ≡ false → P y) → P (cond b x y)
if_by P true x y f g = f refl
if_by P false x y f g = g refl

pub prefix_len-first : (p : ℕ → Bool) (c : ℕ) (cs : List ℕ) → p c ≡ true → prefix_len p (c ∷ cs) ≡ suc (prefix_len p cs)
prefix_len-first p c cs h = rw h (omega arith)

-- the longest front that passes a test
module _ (p : ℕ → Bool) where
  run_passes-by : (c : ℕ) (cs : List ℕ) (b : Bool) → p c ≡ b → list_all p (take (prefix_len p cs) cs) ≡ true → list_all p (take (prefix_len p (c ∷ cs)) (c ∷ cs)) ≡ true
  run_passes-by c cs true e h =
      let n = prefix_len-first p c cs e in
      rw n (rw e h)
  run_passes-by c cs false e h = rw e refl

  pub run_passes : (cs : List ℕ) → list_all p (take (prefix_len p cs) cs) ≡ true
  run_passes [] = refl
  run_passes (c ∷ cs) = run_passes-by c cs (p c) refl (run_passes cs)

  pub fails_first : (c : ℕ) (more : List ℕ) → p c ≡ false → list_all p (c ∷ more) ≡ true → ⊥
  fails_first c more e h = let h2 = rw e at h in cc

  pub no_more : (c : ℕ) (cs more rest : List ℕ) → p c ≡ false → c ∷ cs ≡ more ++ rest → list_all p more ≡ true → more ≡ []
  no_more c cs [] rest e split h = refl
  no_more c cs (d ∷ more) rest e split h =
      let same : d ≡ c = cc in
      absurd (fails_first d more (ap p same ∙ e) h)

  run_longest-by : (c : ℕ) (cs more rest : List ℕ) (b : Bool) → p c ≡ b
      → (drop (prefix_len p cs) cs ≡ more ++ rest → list_all p (take (prefix_len p cs) cs ++ more) ≡ true → more ≡ [])
      → drop (prefix_len p (c ∷ cs)) (c ∷ cs) ≡ more ++ rest → list_all p (take (prefix_len p (c ∷ cs)) (c ∷ cs) ++ more) ≡ true → more ≡ []
  run_longest-by c cs more rest true e ih split h =
      let n = prefix_len-first p c cs e in
      ih (rw n at split) (rw e at (rw n at h))
  run_longest-by c cs more rest false e ih split h = no_more c cs more rest e (rw e at split) (rw e at h)

  pub run_longest : (cs more rest : List ℕ) → drop (prefix_len p cs) cs ≡ more ++ rest → list_all p (take (prefix_len p cs) cs ++ more) ≡ true → more ≡ []
  run_longest [] [] rest split h = refl
  run_longest [] (d ∷ more) rest split h = cc
  run_longest (c ∷ cs) more rest split h = run_longest-by c cs more rest (p c) refl (run_longest cs more rest) split h

-- a comment goes to the next LF or the end
lf : (c : ℕ) → is_comment_byte c ≡ false → c ≡ 10
lf c e = grind (arith, nat_tests)

ends_line-by : (c : ℕ) (cs : List ℕ) (b : Bool) → is_comment_byte c ≡ b → EndsLine (drop (prefix_len is_comment_byte cs) cs) → EndsLine (drop (prefix_len is_comment_byte (c ∷ cs)) (c ∷ cs))
ends_line-by c cs true e h = let n = prefix_len-first is_comment_byte c cs e in rw n h
ends_line-by c cs false e h = rw e (lf c e)

pub ends_line : (cs : List ℕ) → EndsLine (drop (prefix_len is_comment_byte cs) cs)
ends_line [] = tt
ends_line (c ∷ cs) = ends_line-by c cs (is_comment_byte c) refl (ends_line cs)

-- ---- pieces

-- one blank, or one comment
pub data IsSeparator (after : List ℕ) : List ℕ → Type 0 where
  one_blank : (c : ℕ) → is_blank c ≡ true → IsSeparator after (c ∷ [])
  one_comment : (inside : List ℕ) → list_all is_comment_byte inside ≡ true → EndsLine after → IsSeparator after (35 ∷ inside)

-- what the first piece of a text says of its front and of what comes after
abbrev pub FrontOf : ℕ → List ℕ → Result Front LexFault → Type 0
FrontOf at text (Ok (computing.gap n)) = IsWithin text (computing.gap n) × IsSeparator (drop n text) (take n text)
FrontOf at text (Ok (computing.token k n)) = IsWithin text (computing.token k n) × IsLongest k (take n text) (drop n text) × IsInLimits k (take n text)
FrontOf at text (Err e) = IsFault at text e

blank_front : (at c : ℕ) (cs : List ℕ) → is_blank c ≡ true → FrontOf at (c ∷ cs) (Ok (computing.gap 1))
blank_front at c cs e = ((omega arith, omega arith), one_blank c e)

comment_front : (at : ℕ) (cs : List ℕ) → FrontOf at (35 ∷ cs) (Ok (computing.gap (prefix_len is_comment_byte (35 ∷ cs))))
comment_front at cs =
    let n = prefix_len-first is_comment_byte 35 cs refl in
    rw n ((omega arith, omega (arith, prefix_len-le-length is_comment_byte cs)), one_comment (take (prefix_len is_comment_byte cs) cs) (run_passes is_comment_byte cs) (ends_line cs))

above : (limit n m : ℕ) → m ≡ n → nat_lt limit n ≡ true → limit < m
above limit n m e h = grind (arith, nat_tests)

not_above : (limit n m : ℕ) → m ≡ n → nat_lt limit n ≡ false → m ≤ limit
not_above limit n m e h = grind (arith, nat_tests)

-- a first byte, and then the longest run
module _ (p : ℕ → Bool) (c : ℕ) (cs : List ℕ) where
  abbrev run : ℕ
  run = prefix_len p cs

  run_longest_of : (k : TokenKind) → ((s : List ℕ) → list_all p s ≡ true → spells k (c ∷ s) ≡ true) → ((s : List ℕ) → spells k (c ∷ s) ≡ true → list_all p s ≡ true) → IsLongest k (c ∷ take run cs) (drop run cs)
  run_longest_of k to from = record {
    is_one = to (take run cs) (run_passes p cs);
    longest = λ more rest split h. run_longest p cs more rest split (from (take run cs ++ more) h);
  }

  run_within : IsWithin (c ∷ cs) (computing.gap (suc run))
  run_within = (omega arith, omega (arith, prefix_len-le-length p cs))

  run_length : length (c ∷ take run cs) ≡ suc run
  run_length = ap suc (length-take-le run cs (prefix_len-le-length p cs))

  whole : c ∷ (take run cs ++ drop run cs) ≡ c ∷ cs
  whole = ap (λ (x : List ℕ). c ∷ x) (take-append-drop run cs)

is_word_by : (c : ℕ) (s : List ℕ) → is_letter c ≡ true → list_all is_word_byte s ≡ true → is_word (c ∷ s) ≡ true
is_word_by c s e h = rw (e, h) refl

is_word_of : (c : ℕ) (s : List ℕ) → is_letter c ≡ true → is_word (c ∷ s) ≡ true → list_all is_word_byte s ≡ true
is_word_of c s e h = rw e at h

word_front : (at c : ℕ) (cs : List ℕ) → is_letter c ≡ true → FrontOf at (c ∷ cs) (word_at at (suc (prefix_len is_word_byte cs)))
word_front at c cs e =
    let n : ℕ = prefix_len is_word_byte cs in
    let longest = run_longest_of is_word_byte c cs kind.Word (λ s. is_word_by c s e) (λ s. is_word_of c s e) in
    let size = run_length is_word_byte c cs in
    if_by (FrontOf at (c ∷ cs)) (nat_lt longest_name (suc n)) (Err (LongName at)) (Ok (computing.token kind.Word (suc n)))
    (λ long. subst (λ t. IsFault at t (LongName at)) (whole is_word_byte c cs) (long_name (c ∷ take n cs) (drop n cs) longest (above longest_name (suc n) (length (c ∷ take n cs)) size long)))
    (λ short. (run_within is_word_byte c cs, longest, not_above longest_name (suc n) (length (c ∷ take n cs)) size short))

is_number_by : (c : ℕ) (s : List ℕ) → is_digit c ≡ true → list_all is_digit s ≡ true → is_number (c ∷ s) ≡ true
is_number_by c s e h = rw (e, h) refl

is_number_of : (c : ℕ) (s : List ℕ) → is_digit c ≡ true → is_number (c ∷ s) ≡ true → list_all is_digit s ≡ true
is_number_of c s e h = rw e at h

number_front : (at c : ℕ) (cs : List ℕ) → is_digit c ≡ true → FrontOf at (c ∷ cs) (number_at at (suc (prefix_len is_digit cs)) (c ∷ cs))
number_front at c cs e =
    let n : ℕ = prefix_len is_digit cs in
    let digits : List ℕ = c ∷ take n cs in
    let longest = run_longest_of is_digit c cs kind.Number (λ s. is_number_by c s e) (λ s. is_number_of c s e) in
    if_by (FrontOf at (c ∷ cs)) (nat_lt greatest_number (value_of_digits digits)) (Err (Number at)) (Ok (computing.token kind.Number (suc n)))
    (λ great. subst (λ t. IsFault at t (Number at)) (whole is_digit c cs) (great_number digits (drop n cs) longest (above greatest_number (value_of_digits digits) (value_of_digits digits) refl great)))
    (λ fits. (run_within is_digit c cs, longest, not_above greatest_number (value_of_digits digits) (value_of_digits digits) refl fits))

-- ---- signs

-- what all of a list pass, one of it passes
any_has-by : (P : List ℕ → Bool) (s t : List ℕ) (b d : Bool) → bytes_eq s t ≡ b → P t ≡ d → (ts : List (List ℕ)) → (list_all P ts ≡ true → list_any (bytes_eq s) ts ≡ true → P s ≡ true) → list_all P (t ∷ ts) ≡ true → list_any (bytes_eq s) (t ∷ ts) ≡ true → P s ≡ true
any_has-by P s t true true e f ts ih all any = ap P ((bytes_eq-Decides s t).0 e) ∙ f
any_has-by P s t false true e f ts ih all any = ih (rw f at all) (rw e at any)
any_has-by P s t b false e f ts ih all any = let no = rw f at all in cc

pub any_has : (P : List ℕ → Bool) (s : List ℕ) (ts : List (List ℕ)) → list_all P ts ≡ true → list_any (bytes_eq s) ts ≡ true → P s ≡ true
any_has P s [] all any = cc
any_has P s (t ∷ ts) all any = any_has-by P s t (bytes_eq s t) (P t) refl refl ts (any_has P s ts) all any

pub has_length : (n : ℕ) (s : List ℕ) (ts : List (List ℕ)) → list_all (λ t. length t == n) ts ≡ true → list_any (bytes_eq s) ts ≡ true → length s ≡ n
has_length n s ts all any = let h = any_has (λ t. length t == n) s ts all any in grind (arith, nat_tests)

pub one_byte_signs : List (List ℕ)
one_byte_signs = map (λ c. c ∷ []) short_signs

pub or_second : (a b : Bool) → b ≡ true → (a || b) ≡ true
or_second true b h = refl
or_second false b h = h

pub either : (a b : Bool) → (a || b) ≡ true → (a ≡ true) ⊎ (b ≡ true)
either true b h = inl refl
either false b h = inr h

pub signs_split : (s : List ℕ) → is_sign s ≡ (list_any (bytes_eq s) long_signs || list_any (bytes_eq s) one_byte_signs)
unfolding one_byte_signs
signs_split s = list_any-append (bytes_eq s) long_signs one_byte_signs

eq_swap : (c d : ℕ) → ((c == d) && true) ≡ (d == c)
eq_swap c d = grind (arith, nat_tests)

pub short_is : (c : ℕ) (ss : List ℕ) → list_any (bytes_eq (c ∷ [])) (map (λ d. d ∷ []) ss) ≡ list_any (λ d. d == c) ss
short_is c [] = refl
short_is c (d ∷ ss) = ap (λ (b : Bool). b || list_any (bytes_eq (c ∷ [])) (map (λ x. x ∷ []) ss)) (eq_swap c d) ∙ ap (λ (b : Bool). (d == c) || b) (short_is c ss)

pub one_length : (s : List ℕ) → list_any (bytes_eq s) one_byte_signs ≡ true → length s ≡ 1
unfolding one_byte_signs
one_length s h = has_length 1 s one_byte_signs refl h

pub short_test : (c : ℕ) → list_any (bytes_eq (c ∷ [])) one_byte_signs ≡ is_short_sign c
unfolding one_byte_signs
short_test c = short_is c short_signs

pub is_short : (c : ℕ) → list_any (bytes_eq (c ∷ [])) one_byte_signs ≡ true → is_short_sign c ≡ true
unfolding one_byte_signs
is_short c h = sym (short_is c short_signs) ∙ h

-- where no long sign stands at the front, only a sign of one byte may
module _ (c : ℕ) (cs : List ℕ) (no_long : list_any (bytes_eq (take 2 (c ∷ cs))) long_signs ≡ false) where
  short_alone : (s rest : List ℕ) → length s ≡ 1 → c ∷ cs ≡ s ++ rest → list_any (bytes_eq s) one_byte_signs ≡ true → (s ≡ c ∷ []) × (is_short_sign c ≡ true)
  unfolding one_byte_signs
  short_alone [] rest size split h = absurd (omega arith)
  short_alone (a ∷ b ∷ s) rest size split h = absurd (omega arith)
  short_alone (a ∷ []) rest size split h =
      let same : a ≡ c = cc in
      (ap (λ (x : ℕ). x ∷ []) same, sym (short_is c short_signs) ∙ (ap (λ (x : ℕ). list_any (bytes_eq (x ∷ [])) one_byte_signs) (sym same) ∙ h))

  pub sign_alone : (s rest : List ℕ) → c ∷ cs ≡ s ++ rest → is_sign s ≡ true → (s ≡ c ∷ []) × (is_short_sign c ≡ true)
  unfolding one_byte_signs
  sign_alone s rest split h =
      elim (either (list_any (bytes_eq s) long_signs) (list_any (bytes_eq s) one_byte_signs) (sym (signs_split s) ∙ h)) [
        | inl long ↦
            let front : take 2 (c ∷ cs) ≡ s = ap (take 2) split ∙ take_at s rest 2 (has_length 2 s long_signs refl long) in
            let found = sym no_long ∙ (ap (λ (t : List ℕ). list_any (bytes_eq t) long_signs) front ∙ long) in
            cc
        | inr short ↦ short_alone s rest (has_length 1 s one_byte_signs refl short) split short
      ]

  pub short_front : (at : ℕ) → is_short_sign c ≡ true → FrontOf at (c ∷ cs) (Ok (computing.token kind.Sign 1))
  unfolding one_byte_signs
  short_front at short = (
    (omega arith, omega arith),
    record {
      is_one = signs_split (c ∷ []) ∙ or_second (list_any (bytes_eq (c ∷ [])) long_signs) (list_any (bytes_eq (c ∷ [])) one_byte_signs) (short_is c short_signs ∙ short);
      longest = λ more rest split h. let e = (sign_alone (c ∷ more) rest (ap (λ (x : List ℕ). c ∷ x) split) h).0 in cc;
    },
    tt,
  )

pub short_sign : (s : List ℕ) → is_sign s ≡ true → length s ≤ 2
short_sign s h = let most = any_has (λ t. nat_le (length t) 2) s signs refl h in grind (arith, nat_tests)

pub empty : (xs : List ℕ) → length xs ≡ 0 → xs ≡ []
empty [] h = refl
empty (x ∷ xs) h = absurd (omega arith)

differs : (c : ℕ) → (c == 35) ≡ false → c ≢ 35
differs c h = grind (arith, nat_tests)

-- where no word, number or sign begins
module _ (c : ℕ) (cs : List ℕ) (letter : is_letter c ≡ false) (digit : is_digit c ≡ false) (no_long : list_any (bytes_eq (take 2 (c ∷ cs))) long_signs ≡ false) (no_short : is_short_sign c ≡ false) where
  begins_none : (k : TokenKind) (s rest : List ℕ) → c ∷ cs ≡ s ++ rest → (b : Bool) → spells k s ≡ b → b ≡ false
  begins_none k s rest split false e = refl
  begins_none kind.Close s rest split true e = sym e
  begins_none kind.Sign s rest split true e = let found = (sign_alone c cs no_long s rest split e).1 in cc
  begins_none kind.Word [] rest split true e = sym e
  begins_none kind.Word (d ∷ s) rest split true e =
      let same : d ≡ c = cc in
      let no : is_letter d ≡ false = ap is_letter same ∙ letter in
      sym (rw no at e)
  begins_none kind.Number [] rest split true e = sym e
  begins_none kind.Number (d ∷ s) rest split true e =
      let same : d ≡ c = cc in
      let no : is_digit d ≡ false = ap is_digit same ∙ digit in
      sym (rw no at e)

long_front : (at c : ℕ) (cs : List ℕ) → list_any (bytes_eq (take 2 (c ∷ cs))) long_signs ≡ true → FrontOf at (c ∷ cs) (Ok (computing.token kind.Sign 2))
long_front at c cs long =
    let size : length (take 2 (c ∷ cs)) ≡ 2 = has_length 2 (take 2 (c ∷ cs)) long_signs refl long in (
      (omega arith, omega (arith, length-take 2 (c ∷ cs))),
      record {
        is_one = signs_split (take 2 (c ∷ cs)) ∙ rw long refl;
        longest = λ more rest split h. let most = short_sign (take 2 (c ∷ cs) ++ more) h in empty more (omega (arith, size, most, length-append (take 2 (c ∷ cs)) more));
      },
      tt,
    )

byte_front : (at c : ℕ) (cs : List ℕ) → is_blank c ≡ false → (c == 35) ≡ false → is_letter c ≡ false → is_digit c ≡ false → list_any (bytes_eq (take 2 (c ∷ cs))) long_signs ≡ false → is_short_sign c ≡ false → FrontOf at (c ∷ cs) (Err (Byte at))
byte_front at c cs blank mark letter digit long short = no_token c cs blank (differs c mark) (λ k s rest split. begins_none c cs letter digit long short k s rest split (spells k s) refl)

sign_front : (at c : ℕ) (cs : List ℕ) → is_blank c ≡ false → (c == 35) ≡ false → is_letter c ≡ false → is_digit c ≡ false → FrontOf at (c ∷ cs) (sign_at at c (c ∷ cs))
sign_front at c cs blank mark letter digit =
    if_by (FrontOf at (c ∷ cs)) (list_any (bytes_eq (take 2 (c ∷ cs))) long_signs) (Ok (computing.token kind.Sign 2)) (if is_short_sign c then Ok (computing.token kind.Sign 1) else Err (Byte at))
    (long_front at c cs)
    (λ no_long. if_by (FrontOf at (c ∷ cs)) (is_short_sign c) (Ok (computing.token kind.Sign 1)) (Err (Byte at))
    (short_front c cs no_long at)
    (byte_front at c cs blank mark letter digit no_long))

is_mark : (c : ℕ) → (c == 35) ≡ true → c ≡ 35
is_mark c h = grind (arith, nat_tests)

is_word_byte-letter : (c : ℕ) → is_letter c ≡ true → is_word_byte c ≡ true
is_word_byte-letter c h = rw h refl

pub front_is : (at c : ℕ) (cs : List ℕ) → FrontOf at (c ∷ cs) (front_at at (c ∷ cs))
front_is at c cs =
    let text : List ℕ = c ∷ cs in
    let sign = sign_at at c text in
    let number = number_at at (prefix_len is_digit text) text in
    let word = word_at at (prefix_len is_word_byte text) in
    let comment : Result Front LexFault = Ok (computing.gap (prefix_len is_comment_byte text)) in
    if_by (FrontOf at text) (is_blank c) (Ok (computing.gap 1)) (if c == 35 then comment else if is_letter c then word else if is_digit c then number else sign)
    (blank_front at c cs)
    (λ blank. if_by (FrontOf at text) (c == 35) comment (if is_letter c then word else if is_digit c then number else sign)
    (λ mark. subst (λ x. FrontOf at (x ∷ cs) (Ok (computing.gap (prefix_len is_comment_byte (x ∷ cs))))) (sym (is_mark c mark)) (comment_front at cs))
    (λ mark. if_by (FrontOf at text) (is_letter c) word (if is_digit c then number else sign)
    (λ letter. subst (λ n. FrontOf at text (word_at at n)) (sym (prefix_len-first is_word_byte c cs (is_word_byte-letter c letter))) (word_front at c cs letter))
    (λ letter. if_by (FrontOf at text) (is_digit c) number sign
    (λ digit. subst (λ n. FrontOf at text (number_at at n text)) (sym (prefix_len-first is_digit c cs digit)) (number_front at c cs digit))
    (sign_front at c cs blank mark letter))))
