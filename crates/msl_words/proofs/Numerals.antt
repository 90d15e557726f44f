-- Numbers of decimal digits: what `parse` makes of them.
use Rattle.std.proofs.Common.{◌≡◌, ◌∙◌, ℕ, ◌<◌, ◌^◌, ◌&&◌, Bool, true, false, cond, length, nat_le, [], ◌∷◌, Result, Ok, Err, Option, Some, None, refl, sym, ap, arith}
use Rattle.std.specs.Char.{is_ascii_digit}
use Rattle.std.specs.List.{list_all}
use Rattle.std.specs.Str.{all_ascii_digits}
use Rattle.std.specs.Str.Parse.{ParsesUnsigned, digits_value}
use Rattle.std.specs.Result.{OkIff}
use Rattle.std.proofs.lemmas.Bool.{and_parts, and_left, and_right, cond-false, eqb-true, leb-true, ltb-true, not-false, false_from_ne_true}
use Rattle.std.proofs.lemmas.Str.Parse.{IsNumeralModel, numerals_by_value, parse_digits, tells_all_ascii_digits}
use Rattle.msl_base.specs.Names.{Text}
use Rattle.msl_words.specs.Words.{is_numeral, is_operand, number_of}

own : IsNumeralModel (λ ds. all_ascii_digits ds ≡ true) (digits_value 10)
own = numerals_by_value _ tells_all_ascii_digits

-- the number that was parsed, if it is in the range
abbrev pub parsed : {E : Type 0} → ℕ → ℕ → Result ℕ E → Option ℕ
parsed least most (Ok n) = cond (nat_le least n && nat_le n most) (Some n) None
parsed least most (Err e) = None

parsed_is : {E : Type 0} (least most n : ℕ) (some : Type 0) (r : Result ℕ E) → some → most < 2 ^ 32 → OkIff r (some × (n < 2 ^ 32)) n → cond (nat_le least n && nat_le n most) (Some n) None ≡ parsed least most r
parsed_is least most n some (Ok x) holds below h = ap (λ (k : ℕ). cond (nat_le least k && nat_le k most) (Some k) None) (sym h.1)
parsed_is least most n some (Err e) holds below h =
    cond-false (nat_le least n && nat_le n most) (Some n) None (and_right (nat_le least n) (nat_le n most) (false_from_ne_true (nat_le n most) (λ le. h (holds, omega (arith, leb-true n most le, below)))))

-- the number of a numeral is the one that is parsed
pub number_of-parsed : {E : Type 0} (digits least most : ℕ) (word : Text) (r : Result ℕ E) → ParsesUnsigned 32 10 word r → is_numeral digits word ≡ true → most < 2 ^ 32 → number_of digits least most word ≡ parsed least most r
number_of-parsed digits least most word r h numeral below =
    let n = digits_value 10 word in
    let all : all_ascii_digits word ≡ true = (and_parts _ _ numeral).1 in
    let long : 0 < length word = ltb-true 0 (length word) (and_parts _ _ (and_parts _ _ numeral).0).0 in
    ap (λ (b : Bool). cond (b && (nat_le least n && nat_le n most)) (Some n) None) numeral
    ∙ parsed_is least most n (0 < length word) r long below (parse_digits own 32 word r h all)

pub number_of-none : (digits least most : ℕ) (word : Text) → is_numeral digits word ≡ false → number_of digits least most word ≡ None
number_of-none digits least most word e = cond-false _ _ _ (and_left _ _ e)

-- no number is empty or begins with '-'
pub number_of-operand : (digits least most : ℕ) (word : Text) → is_operand word ≡ false → number_of digits least most word ≡ None
number_of-operand digits least most [] e = refl
number_of-operand digits least most (c ∷ cs) e =
    let is : c ≡ 45 = eqb-true c 45 (not-false _ e) in
    number_of-none digits least most (c ∷ cs) (and_right _ _ (ap (λ (x : ℕ). all_ascii_digits (x ∷ cs)) is))

pub list_all-digits : (word : Text) → list_all is_ascii_digit word ≡ all_ascii_digits word
list_all-digits [] = refl
list_all-digits (c ∷ cs) = ap (λ (b : Bool). is_ascii_digit c && b) (list_all-digits cs)
