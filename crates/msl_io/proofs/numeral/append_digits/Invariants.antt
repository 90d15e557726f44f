use Rattle.std.proofs.Common.{◌≡◌, ◌++◌, List, ℕ, take, min}
use Rattle.std.specs.Str.Parse.{digits_value, AllDigits}
use Rattle.msl_io.specs.Taking.{too_great}
use Rattle.msl_io.proofs.numeral.append_digits.Given as goal

abbrev pub invariant-loop-i : goal.invariant-loop-i
invariant-loop-i l = record {
  value : (ds : List ℕ) → l.fn.magnitude ≡ min (digits_value 10 ds) too_great → l.magnitude ≡ min (digits_value 10 (ds ++ take l.i l.text)) too_great;
  digits : AllDigits 10 (take l.i l.text);
}
