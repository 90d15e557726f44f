-- A number's text: its bytes, its length, and the number that it spells.
use Rattle.std.proofs.Common.{arith, ◌≡◌, ℕ, suc, ℤ, pos, negsuc, ◌<◌, ◌≤◌, List, [], ◌∷◌, length, map, refl, ap, ◌∙◌, true, false, Some, inl}
use Rattle.std.proofs.lemmas.Fmt.{decimal_is_IsNumeral, length_signed_le}
use Rattle.std.proofs.lemmas.Str.Parse.{digit_from_value}
use Rattle.std.specs.Fmt.{decimal, signed_decimal}
use Rattle.std.specs.Int.{w64}
use Rattle.std.specs.List.{AllByRecursion}
use Rattle.std.specs.Prelude.{FitsSigned}
use Rattle.std.specs.Str.Parse.{AllDigits}
use Rattle.msl_io.specs.Lines.{number_of, numbers_of, in_front}
use Rattle.msl_io.proofs.Digits.{number-is, unsigned_fits, negative_fits}

-- above blanks and line ends
abbrev pub IsVisible : ℕ → Type 0
IsVisible b = 33 ≤ b

digits_visible : (ds : List ℕ) → AllDigits 10 ds → AllByRecursion IsVisible ds
digits_visible [] h = tt
digits_visible (c ∷ cs) h = let r = digit_from_value c h.0 in (omega (arith, r.0), digits_visible cs h.1)

pub number_visible : (z : ℤ) → FitsSigned w64 z → AllByRecursion IsVisible (signed_decimal z)
number_visible (pos n) f = digits_visible (decimal n) (decimal_is_IsNumeral n (omega (arith, f.sfits))).0.1
number_visible (negsuc n) f = (omega arith, digits_visible (decimal (suc n)) (decimal_is_IsNumeral (suc n) (omega (arith, f.sfits))).0.1)

pub number_some : (z : ℤ) → FitsSigned w64 z → 0 < length (signed_decimal z)
number_some (pos n) f = (decimal_is_IsNumeral n (omega (arith, f.sfits))).0.0
number_some (negsuc n) f = omega arith

pub number_short : (z : ℤ) → FitsSigned w64 z → length (signed_decimal z) ≤ 20
number_short z f = length_signed_le 19 z (omega (arith, f.sfits)) f.sfits

pub number_spelt : (z : ℤ) → FitsSigned w64 z → number_of (signed_decimal z) ≡ Some z
number_spelt (pos n) f =
    let d = decimal_is_IsNumeral n (omega (arith, f.sfits)) in
    number-is false [] (decimal n) refl d.0.1 ∙ unsigned_fits (decimal n) n (omega (arith, d.1, f.sfits)) d.0.0 d.0.1 (omega (arith, f.sfits))
number_spelt (negsuc n) f =
    let d = decimal_is_IsNumeral (suc n) (omega (arith, f.sfits)) in
    number-is true (45 ∷ []) (decimal (suc n)) (refl, inl (refl, refl)) d.0.1 ∙ negative_fits (decimal (suc n)) (suc n) (omega (arith, d.1, f.sfits)) d.0.0 d.0.1 (omega (arith, f.sfits))

pub numbers_spelt : (zs : List ℤ) → AllByRecursion (FitsSigned w64) zs → numbers_of (map signed_decimal zs) ≡ Some zs
numbers_spelt [] h = refl
numbers_spelt (z ∷ zs) h =
    ap (λ o. in_front o (numbers_of (map signed_decimal zs))) (number_spelt z h.0) ∙ ap (in_front (Some z)) (numbers_spelt zs h.1)
