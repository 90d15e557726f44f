-- The bytes of words and of numbers.
use Rattle.std.proofs.Common.{◌≡◌, ℕ, ◌+◌, ◌*◌, ◌-◌, ◌<◌, ◌≤◌, List, [], ◌∷◌, length, take, get_or, true, ap, arith}
use Rattle.std.proofs.Math.Seq.{take-length}
use Rattle.std.proofs.lemmas.List.Sums.{fold_more}
use Rattle.std.proofs.lemmas.Bool.Decides.{nat_tests}
use Rattle.std.proofs.lemmas.Str.{IsUtf8-from_ascii}
use Rattle.std.proofs.lemmas.Str.Ascii.{IsAscii-nil, IsAscii-cons}
use Rattle.std.specs.List.{list_all}
use Rattle.std.specs.Str.{IsAscii, IsUtf8}
use Rattle.msl_lex.specs.Bytes.{is_word_byte, value_of_digits}
use Rattle.msl_lex.specs.Layout.{is_word}
use Rattle.msl_lex.proofs.Numbers.{fold-take_le}

ascii_bytes : (w : List ℕ) → list_all is_word_byte w ≡ true → IsAscii w
ascii_bytes [] h = IsAscii-nil
ascii_bytes (c ∷ w) h =
    let below : c < 128 = grind (arith, nat_tests) in
    let rest : list_all is_word_byte w ≡ true = grind (arith, nat_tests) in
    IsAscii-cons c w below (ascii_bytes w rest)

pub word_is_text : (w : List ℕ) → is_word w ≡ true → IsUtf8 w
word_is_text [] h = cc
word_is_text (c ∷ w) h =
    let all : list_all is_word_byte (c ∷ w) ≡ true = grind (arith, nat_tests) in
    IsUtf8-from_ascii (c ∷ w) (ascii_bytes (c ∷ w) all)

-- the value up to a digit and with it is at most that of all
pub value_with_le : (ds : List ℕ) (i : ℕ) → i < length ds → 10 * value_of_digits (take i ds) + (get_or ds i 0 - 48) ≤ value_of_digits ds
value_with_le ds i lt =
    omega (arith, fold_more (λ n d. 10 * n + (d - 48)) 0 ds i 0 lt, fold-take_le ds (i + 1) (length ds) 0 (omega arith), ap value_of_digits (take-length ds))
