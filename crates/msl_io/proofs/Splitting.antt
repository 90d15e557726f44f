-- The words of a text, and how they are read piece by piece.
use Rattle.std.proofs.Common.{arith, ◌≡◌, ℕ, ℤ, ◌+◌, ◌-◌, ◌<◌, ◌≤◌, List, [], ◌∷◌, ◌++◌, length, ap, sym, refl, ◌∙◌, subst, true, false, ltb, Option, Some, None, ◌==◌, not, ◌&&◌, take, drop, get_or, ◌⊎◌, inl, inr, ⊎_elim, append_assoc, append-nil, length-append, Ok, Err}
use Rattle.std.proofs.lemmas.Bool.{cond-true, cond-false, lt-ltb, le-ltb, cases_Bool, or_parts, and_parts, and_cases, not-true, not-false, true≢false}
use Rattle.std.proofs.lemmas.Bool.Decides.{nat_tests}
use Rattle.std.proofs.lemmas.List.{take-append-drop}
use Rattle.std.proofs.lemmas.List.Elements.{filter-append, All-append, All-push, All-nil}
use Rattle.std.proofs.lemmas.Grind.{get_or_default_zero}
use Rattle.std.proofs.lemmas.Option.{same_Some}
use Rattle.std.proofs.lemmas.Str.Parse.{digit_at}
use Rattle.std.proofs.lemmas.List.Splits.{slice_split_none}
use Rattle.std.specs.Char.{is_ascii_digit}
use Rattle.std.specs.Int.{IsInRange}
use Rattle.std.specs.Str.Parse.{AllDigits}
use Rattle.std.specs.List.{All, filter, slice_split}
use Rattle.msl_base.specs.declared.fault.Fault.TheVariants as faults
use Rattle.msl_base.proofs.Lists.{Begins, split-begins, split-cut}
use Rattle.msl_io.specs.declared.numeral.Word.{Word}
use Rattle.msl_io.specs.declared.words.Words.{Words}
use Rattle.msl_io.specs.Lines.{is_blank, is_word, words, number_of, numbers_of, in_front, record_of, most_numbers}
use Rattle.msl_io.specs.Taking.{is_sign, IsWord, IsSpoilt, IsOpen, Scanned, Closed, Holds, IsDigitsFront}
use Rattle.msl_outside.proofs.Pieces.{rest_of}
use Rattle.msl_io.proofs.Digits.{IsStray, stray}

-- ---- parts between blanks

abbrev Parts : Type 0
Parts = List (List ℕ)

abbrev IsUnbroken : List ℕ → Type 0
IsUnbroken = All (λ (b : ℕ). is_blank b ≡ false)

-- ---- words

-- a blank ends the words before it
pub words-blank : (xs ys : List ℕ) (b : ℕ) → is_blank b ≡ true → words (xs ++ b ∷ ys) ≡ words xs ++ words ys
words-blank xs ys b is = ap (filter is_word) (split-cut is_blank xs ys b is) ∙ filter-append is_word (slice_split is_blank xs) (slice_split is_blank ys)

pub words-at_blank : (xs : List ℕ) (b : ℕ) → is_blank b ≡ true → words (xs ++ b ∷ []) ≡ words xs
words-at_blank xs b is = words-blank xs [] b is ∙ append-nil (words xs)

keep_first : (part : List ℕ) (parts : Parts) → 0 < length part → filter is_word (part ∷ parts) ≡ part ∷ filter is_word parts
keep_first part parts some = cond-true (is_word part) (part ∷ filter is_word parts) (filter is_word parts) (lt-ltb 0 (length part) some)

-- bytes with no blank are one word
pub words-unbroken : (last : List ℕ) → IsUnbroken last → 0 < length last → words last ≡ last ∷ []
words-unbroken last h some = ap (filter is_word) (slice_split_none is_blank last h) ∙ keep_first last [] some

-- and begin the first word, whatever follows
words-begins : (front ys : List ℕ) → IsUnbroken front → 0 < length front → Begins front (words (front ++ ys))
words-begins front ys h some =
    let b = split-begins is_blank front ys h in
    record {
      more = b.more;
      others = filter is_word b.others;
      is = ap (filter is_word) b.is ∙ keep_first (front ++ b.more) b.others (omega (arith, length-append front b.more, some));
    }

-- ---- the numbers of words

in_front-none : (o : Option ℤ) → in_front o None ≡ None
in_front-none None = refl
in_front-none (Some z) = refl

in_front-is_none : (o : Option ℤ) (p : Option (List ℤ)) → in_front o p ≡ None → (o ≡ None) ⊎ (p ≡ None)
in_front-is_none None p e = inl refl
in_front-is_none (Some z) None e = inr refl
in_front-is_none (Some z) (Some zs) e = cc

pub numbers_of-none : (us vs : Parts) → numbers_of us ≡ None → numbers_of (us ++ vs) ≡ None
numbers_of-none [] vs e = cc
numbers_of-none (u ∷ us) vs e =
    ⊎_elim (λ p. ap (λ (o : Option ℤ). in_front o (numbers_of (us ++ vs))) p) (λ p. ap (in_front (number_of u)) (numbers_of-none us vs p) ∙ in_front-none (number_of u)) (in_front-is_none (number_of u) (numbers_of us) e)

record AreInFront (o : Option ℤ) (p : Option (List ℤ)) (zs : List ℤ) : Type 0 where
  y : ℤ
  ys : List ℤ
  first : o ≡ Some y
  others : p ≡ Some ys
  is : zs ≡ y ∷ ys

in_front-some : (o : Option ℤ) (p : Option (List ℤ)) (zs : List ℤ) → in_front o p ≡ Some zs → AreInFront o p zs
in_front-some None p zs e = cc
in_front-some (Some z) None zs e = cc
in_front-some (Some z) (Some ys) zs e = record { y = z; ys = ys; first = refl; others = refl; is = cc }

numbers_of-push : (us : Parts) (w : List ℕ) (zs : List ℤ) (z : ℤ) → numbers_of us ≡ Some zs → number_of w ≡ Some z → numbers_of (us ++ w ∷ []) ≡ Some (zs ++ z ∷ [])
numbers_of-push [] w zs z e is = ap (λ (o : Option ℤ). in_front o (Some [])) is ∙ ap (λ (t : List ℤ). Some (t ++ z ∷ [])) (same_Some [] zs e)
numbers_of-push (u ∷ us) w zs z e is =
    let f = in_front-some (number_of u) (numbers_of us) zs e in
    ap (λ (o : Option ℤ). in_front o (numbers_of (us ++ w ∷ []))) f.first ∙ ap (in_front (Some f.y)) (numbers_of-push us w f.ys z f.others is)
    ∙ ap (λ (t : List ℤ). Some (t ++ z ∷ [])) (sym f.is)

pub numbers_of-stray : (us vs : Parts) (w : List ℕ) → number_of w ≡ None → numbers_of (us ++ w ∷ vs) ≡ None
numbers_of-stray [] vs w e = ap (λ (o : Option ℤ). in_front o (numbers_of vs)) e
numbers_of-stray (u ∷ us) vs w e = ap (in_front (number_of u)) (numbers_of-stray us vs w e) ∙ in_front-none (number_of u)

-- ---- scanning

pub spoilt_more : (text more : List ℕ) → IsSpoilt text → IsSpoilt (text ++ more)
spoilt_more text more h rest = ap (λ (t : List ℕ). numbers_of (words t)) (append_assoc text more rest) ∙ h (more ++ rest)

pub spoilt_here : (text : List ℕ) → IsSpoilt text → numbers_of (words text) ≡ None
spoilt_here text h = ap (λ (t : List ℕ). numbers_of (words t)) (sym (append-nil text)) ∙ h []

pub scanned_none : (w : Words) (word : Word) → w.bad ≡ false → w.count ≡ 0 → w.numbers.numbers ≡ [] → IsWord word [] → Scanned [] w word
scanned_none w word good count kept is = record {
  spoilt = λ bad. absurd (true≢false (sym bad ∙ good));
  good = λ _. record {
    front = [];
    last = [];
    numbers = [];
    split = refl;
    cut = λ more. refl;
    unbroken = All-nil (λ (b : ℕ). is_blank b ≡ false);
    spelt = refl;
    holds = record { count = count; kept = λ _. kept };
    is_word = is;
  };
}

-- bytes of a word
pub scanned_bytes : (text bytes : List ℕ) (w : Words) (word next : Word) → IsUnbroken bytes → ((before : List ℕ) → IsWord word before → IsWord next (before ++ bytes)) → Scanned text w word → Scanned (text ++ bytes) w next
scanned_bytes text bytes w word next unbroken step s = record {
  spoilt = λ bad. spoilt_more text bytes (s.spoilt bad);
  good = λ good.
      let o = s.good good in
      record {
        front = o.front;
        last = o.last ++ bytes;
        numbers = o.numbers;
        split = ap (λ (t : List ℕ). t ++ bytes) o.split ∙ append_assoc o.front o.last bytes;
        cut = o.cut;
        unbroken = All-append (λ (c : ℕ). is_blank c ≡ false) o.last bytes o.unbroken unbroken;
        spelt = o.spelt;
        holds = o.holds;
        is_word = step o.last o.is_word;
      };
}

pub scanned_byte : (text : List ℕ) (w : Words) (word next : Word) (b : ℕ) → is_blank b ≡ false → ((bytes : List ℕ) → IsWord word bytes → IsWord next (bytes ++ b ∷ [])) → Scanned text w word → Scanned (text ++ b ∷ []) w next
scanned_byte text w word next b unbroken = scanned_bytes text (b ∷ []) w word next (All-push (λ (c : ℕ). is_blank c ≡ false) [] b (All-nil (λ (c : ℕ). is_blank c ≡ false)) unbroken)

-- a blank
pub scanned_blank : (text : List ℕ) (w : Words) (next : Word) (b : ℕ) → is_blank b ≡ true → Closed text w → IsWord next [] → Scanned (text ++ b ∷ []) w next
scanned_blank text w next b is c none = record {
  spoilt = λ bad more. ap (λ (t : List ℕ). numbers_of (words t)) (append_assoc text (b ∷ []) more) ∙ ap numbers_of (words-blank text more b is) ∙ numbers_of-none (words text) (words more) (c.spoilt bad);
  good = λ good.
      let (numbers, spelt, holds) = c.good good in
      record {
        front = text ++ b ∷ [];
        last = [];
        numbers = numbers;
        split = sym (append-nil (text ++ b ∷ []));
        cut = λ more. ap words (append_assoc text (b ∷ []) more) ∙ words-blank text more b is ∙ ap (λ (t : Parts). t ++ words more) (sym (words-at_blank text b is));
        unbroken = All-nil (λ (c : ℕ). is_blank c ≡ false);
        spelt = ap numbers_of (words-at_blank text b is) ∙ spelt;
        holds = holds;
        is_word = none;
      };
}

-- a byte that no word has there
stray_text : (text : List ℕ) (w : Words) (word : Word) (b : ℕ) → is_blank b ≡ false → IsOpen text w word → ((bytes : List ℕ) → IsWord word bytes → IsStray bytes b) → IsSpoilt (text ++ b ∷ [])
stray_text text w word b unbroken o is more =
    let head = o.last ++ b ∷ [] in
    let begins = words-begins head more (All-push (λ (c : ℕ). is_blank c ≡ false) o.last b o.unbroken unbroken) (omega (arith, length-append o.last (b ∷ []))) in
    ap (λ (t : List ℕ). numbers_of (words t)) (ap (λ (t : List ℕ). (t ++ b ∷ []) ++ more) o.split ∙ ap (λ (t : List ℕ). t ++ more) (append_assoc o.front o.last (b ∷ [])) ∙ append_assoc o.front head more)
    ∙ ap numbers_of (o.cut (head ++ more) ∙ ap (λ (t : Parts). words o.front ++ t) begins.is)
    ∙ numbers_of-stray (words o.front) begins.others (head ++ begins.more) (ap number_of (append_assoc o.last (b ∷ []) begins.more) ∙ stray word o.last begins.more b o.is_word (is o.last o.is_word))

pub scanned_stray : (text : List ℕ) (w w' : Words) (word next : Word) (b : ℕ) → is_blank b ≡ false → w'.bad ≡ true → ((bytes : List ℕ) → IsWord word bytes → IsStray bytes b) → Scanned text w word → Scanned (text ++ b ∷ []) w' next
scanned_stray text w w' word next b unbroken bad is s = record {
  spoilt = λ _. ⊎_elim (λ t. spoilt_more text (b ∷ []) (s.spoilt t)) (λ f. stray_text text w word b unbroken (s.good f) is) (cases_Bool w.bad);
  good = λ good. absurd (true≢false (sym bad ∙ good));
}

-- no word is begun
pub closed_unbegun : (text : List ℕ) (w : Words) (word : Word) → word.begun ≡ false → Scanned text w word → Closed text w
closed_unbegun text w word unbegun s = record {
  spoilt = λ bad. spoilt_here text (s.spoilt bad);
  good = λ good.
      let o = s.good good in
      let is = o.split ∙ ap (λ (t : List ℕ). o.front ++ t) (o.is_word.unopened unbegun) ∙ append-nil o.front in (o.numbers, ap (λ (t : List ℕ). numbers_of (words t)) is ∙ o.spelt, o.holds);
}

open_words : (text : List ℕ) (w : Words) (word : Word) → word.begun ≡ true → (o : IsOpen text w word) → words text ≡ words o.front ++ o.last ∷ []
open_words text w word begun o = ap words o.split ∙ o.cut o.last ∙ ap (λ (t : Parts). words o.front ++ t) (words-unbroken o.last o.unbroken (o.is_word.opened begun))

-- the last word is no number
pub closed_bad : (text : List ℕ) (w w' : Words) (word : Word) → word.begun ≡ true → w'.bad ≡ true → ((bytes : List ℕ) → IsWord word bytes → None ≡ number_of bytes) → Scanned text w word → Closed text w'
closed_bad text w w' word begun bad none s = record {
  spoilt = λ _. ⊎_elim (λ t. spoilt_here text (s.spoilt t)) (λ f.
      let o = s.good f in ap numbers_of (open_words text w word begun o) ∙ numbers_of-stray (words o.front) [] o.last (sym (none o.last o.is_word))) (cases_Bool w.bad);
  good = λ good. absurd (true≢false (sym bad ∙ good));
}

-- the last word is a number
pub closed_number : (text : List ℕ) (w w' : Words) (word : Word) (z : ℤ) → word.begun ≡ true → w'.bad ≡ w.bad → ((bytes : List ℕ) → IsWord word bytes → Some z ≡ number_of bytes)
    → ((numbers : List ℤ) → Holds numbers w → Holds (numbers ++ z ∷ []) w') → Scanned text w word → Closed text w'
closed_number text w w' word z begun same some holds s = record {
  spoilt = λ bad. spoilt_here text (s.spoilt (sym same ∙ bad));
  good = λ good.
      let o = s.good (sym same ∙ good) in (
        o.numbers ++ z ∷ [],
        ap numbers_of (open_words text w word begun o) ∙ numbers_of-push (words o.front) o.last o.numbers z o.spelt (sym (some o.last o.is_word)),
        holds o.numbers o.holds,
      );
}

pub holds_more : (numbers : List ℤ) (w w' : Words) (z : ℤ) → w.count < most_numbers → w'.count ≡ w.count + 1 → w'.numbers.numbers ≡ w.numbers.numbers ++ z ∷ [] → Holds numbers w → Holds (numbers ++ z ∷ []) w'
holds_more numbers w w' z lt count kept h = record {
  count = omega (arith, h.count, length-append numbers (z ∷ []));
  kept = λ _. kept ∙ ap (λ (t : List ℤ). t ++ z ∷ []) (h.kept (omega arith));
}

pub holds_wide : (numbers : List ℤ) (w w' : Words) (z : ℤ) → most_numbers ≤ w.count → w'.count ≡ most_numbers + 1 → Holds numbers w → Holds (numbers ++ z ∷ []) w'
holds_wide numbers w w' z ge count h = record {
  count = omega (arith, h.count, length-append numbers (z ∷ []));
  kept = λ few. absurd (omega arith);
}

-- nothing mends a text that is spoilt
scanned_rest : (text more : List ℕ) (w : Words) (word next : Word) → w.bad ≡ true → Scanned text w word → Scanned (text ++ more) w next
scanned_rest text more w word next bad s = record {
  spoilt = λ _. spoilt_more text more (s.spoilt bad);
  good = λ good. absurd (true≢false (sym bad ∙ good));
}

digit_unbroken : (b : ℕ) → IsInRange 48 57 b → is_blank b ≡ false
digit_unbroken b is = grind (arith, nat_tests)

digits_unbroken : (ds : List ℕ) → AllDigits 10 ds → IsUnbroken ds
digits_unbroken ds h k d lt = rw (get_or_default_zero ds k d lt) (digit_unbroken (get_or ds k 0) (digit_at ds k h lt))

-- what a word may not have there
pub stray_word : (word : Word) (b : ℕ) → is_ascii_digit b ≡ false → false ≡ (not word.begun && is_sign b) → (bytes : List ℕ) → IsWord word bytes → IsStray bytes b
stray_word word b undigit unsign bytes w = (
  undigit,
  λ none. ⊎_elim (λ begun. absurd (omega (arith, w.opened (not-false word.begun begun), ap length none))) (λ s. or_parts (b == 45) (b == 43) s) (and_cases (not word.begun) (is_sign b) (sym unsign)),
)

-- the word that a sign begins
pub sign_step : (word next : Word) (b : ℕ) → true ≡ (not word.begun && is_sign b) → IsWord next (b ∷ []) → (bytes : List ℕ) → IsWord word bytes → IsWord next (bytes ++ b ∷ [])
sign_step word next b is n bytes w =
    subst (λ (t : List ℕ). IsWord next (t ++ b ∷ [])) (sym (w.unopened (not-true word.begun (and_parts (not word.begun) (is_sign b) (sym is)).0))) n

sign_unbroken-by : (b : ℕ) → is_sign b ≡ true → is_blank b ≡ false
sign_unbroken-by b is = grind (arith, nat_tests)

pub sign_unbroken : (word : Word) (b : ℕ) → true ≡ (not word.begun && is_sign b) → is_blank b ≡ false
sign_unbroken word b is = sign_unbroken-by b (and_parts (not word.begun) (is_sign b) (sym is)).1

pub is_a_sign : (word : Word) (b : ℕ) → true ≡ (not word.begun && is_sign b) → (b ≡ 43) ⊎ (b ≡ 45)
is_a_sign word b is = let s = (and_parts (not word.begun) (is_sign b) (sym is)).1 in grind (arith, nat_tests)

-- ---- a loop over the bytes

-- from what was scanned before, the text was scanned up to a rest
pub record Went (old : Words) (from : Word) (text rest : List ℕ) (w : Words) (word : Word) : Type 0 where
  pub done : List ℕ
  pub split : text ≡ done ++ rest
  pub scanned : (before : List ℕ) → Scanned before old from → Scanned (before ++ done) w word

pub went_none : (w : Words) (word : Word) (text : List ℕ) → Went w word text text w word
went_none w word text = record {
  done = [];
  split = refl;
  scanned = λ before s. subst (λ (t : List ℕ). Scanned t w word) (sym (append-nil before)) s;
}

module _ (old : Words) (from : Word) (text rest : List ℕ) (w : Words) (word : Word) (went : Went old from text rest w word) where
  -- more of the text
  went_more : (front behind : List ℕ) (w' : Words) (next : Word) → rest ≡ front ++ behind → ((before : List ℕ) → Scanned before w word → Scanned (before ++ front) w' next) → Went old from text behind w' next
  went_more front behind w' next is step = record {
    done = went.done ++ front;
    split = went.split ∙ ap (λ (t : List ℕ). went.done ++ t) is ∙ sym (append_assoc went.done front behind);
    scanned = λ before s. subst (λ (t : List ℕ). Scanned t w' next) (append_assoc before went.done front) (step (before ++ went.done) (went.scanned before s));
  }

  pub went_digits : (n : ℕ) (next : Word) → IsDigitsFront rest n → ((bytes : List ℕ) → IsWord word bytes → IsWord next (bytes ++ take n rest)) → Went old from text (take (length rest - n) (drop n rest)) w next
  went_digits n next front is =
      went_more (take n rest) (take (length rest - n) (drop n rest)) w next (sym (take-append-drop n rest) ∙ ap (λ (t : List ℕ). take n rest ++ t) (sym (rest_of n rest)))
      (λ before s. scanned_bytes before (take n rest) w word next (digits_unbroken (take n rest) front.digits) is s)

  pub went_byte : (b : ℕ) (behind : List ℕ) (w' : Words) (next : Word) → rest ≡ b ∷ behind → ((before : List ℕ) → Scanned before w word → Scanned (before ++ b ∷ []) w' next) → Went old from text behind w' next
  went_byte b behind w' next is step = went_more (b ∷ []) behind w' next is step

  -- the whole text, or one that is spoilt already
  pub went_all : rest ≡ [] → (before : List ℕ) → Scanned before old from → Scanned (before ++ text) w word
  went_all none before s =
      subst (λ (t : List ℕ). Scanned (before ++ t) w word) (sym (went.split ∙ ap (λ (t : List ℕ). went.done ++ t) none ∙ append-nil went.done)) (went.scanned before s)

  pub went_spoilt : w.bad ≡ true → (before : List ℕ) → Scanned before old from → Scanned (before ++ text) w word
  went_spoilt bad before s =
      subst (λ (t : List ℕ). Scanned t w word) (append_assoc before went.done rest ∙ ap (λ (t : List ℕ). before ++ t) (sym went.split))
      (scanned_rest (before ++ went.done) rest w word word bad (went.scanned before s))

-- digits, and a byte behind them
pub went_on : (old : Words) (from : Word) (text rest behind : List ℕ) (w w' : Words) (word next last : Word) (n b : ℕ) → Went old from text rest w word
    → IsDigitsFront rest n → ((bytes : List ℕ) → IsWord word bytes → IsWord next (bytes ++ take n rest))
    → take (length rest - n) (drop n rest) ≡ b ∷ behind → ((before : List ℕ) → Scanned before w next → Scanned (before ++ b ∷ []) w' last) → Went old from text behind w' last
went_on old from text rest behind w w' word next last n b went front is split step =
    went_byte old from text (take (length rest - n) (drop n rest)) w next (went_digits old from text rest w word went n next front is) b behind w' last split step

-- ---- the record

pub record-bad : (n : ℕ) (text : List ℕ) (w : Words) → w.bad ≡ true → Closed text w → record_of n (numbers_of (words text)) ≡ Err (faults.BadRecord n)
record-bad n text w bad c = ap (record_of n) (c.spoilt bad)

pub record-wide : (n : ℕ) (text : List ℕ) (w : Words) → w.bad ≡ false → most_numbers < w.count → Closed text w → record_of n (numbers_of (words text)) ≡ Err (faults.WideRecord n)
record-wide n text w good gt c =
    let (numbers, spelt, holds) = c.good good in
    ap (record_of n) spelt ∙ cond-true (ltb most_numbers (length numbers)) (Err (faults.WideRecord n)) (Ok numbers) (lt-ltb most_numbers (length numbers) (omega (arith, holds.count)))

pub record-is : (n : ℕ) (text : List ℕ) (w : Words) → w.bad ≡ false → w.count ≤ most_numbers → Closed text w → record_of n (numbers_of (words text)) ≡ Ok w.numbers.numbers
record-is n text w good le c =
    let (numbers, spelt, holds) = c.good good in
    ap (record_of n) spelt ∙ cond-false (ltb most_numbers (length numbers)) (Err (faults.WideRecord n)) (Ok numbers) (le-ltb most_numbers (length numbers) (omega (arith, holds.count))) ∙ ap Ok (sym (holds.kept le))
