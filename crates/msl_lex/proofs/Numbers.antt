-- The value of more digits is no less.
use Rattle.std.proofs.Common.{◌≡◌, ℕ, zero, suc, ◌+◌, ◌-◌, ◌*◌, ◌<◌, ◌≤◌, List, [], ◌∷◌, take, Ok, Err, arith}
use Rattle.std.proofs.lemmas.Bool.Decides.{nat_tests}
use Rattle.std.specs.List.{fold}
use Rattle.msl_lex.specs.Computing as computing
use Rattle.msl_lex.specs.declared.token.TokenKind.TheVariants as kind
use Rattle.msl_lex.specs.declared.token.LexFault.TheVariants as fault
use Rattle.msl_lex.specs.Bytes.{value_of_digits}
use Rattle.msl_lex.specs.Lexemes.{greatest_number}
use Rattle.msl_lex.specs.Computing.{number_at}

pub fold-grows : (ds : List ℕ) (n : ℕ) → n ≤ fold (λ m d. 10 * m + (d - 48)) n ds
fold-grows [] n = omega arith
fold-grows (d ∷ ds) n = omega (arith, fold-grows ds (10 * n + (d - 48)))

pub fold-take_le : (ds : List ℕ) (i j n : ℕ) → i ≤ j → fold (λ m d. 10 * m + (d - 48)) n (take i ds) ≤ fold (λ m d. 10 * m + (d - 48)) n (take j ds)
fold-take_le ds zero j n h = fold-grows (take j ds) n
fold-take_le ds (suc i) zero n h = absurd (omega arith)
fold-take_le [] (suc i) (suc j) n h = omega arith
fold-take_le (d ∷ ds) (suc i) (suc j) n h = fold-take_le ds i j (10 * n + (d - 48)) (omega arith)

pub number_fits : (at n value : ℕ) (ds : List ℕ) → value ≡ value_of_digits (take n ds) → value ≤ greatest_number → number_at at n ds ≡ Ok (computing.token kind.Number n)
number_fits at n value ds e h = grind (arith, nat_tests)

pub number_too_great : (at i n value : ℕ) (ds : List ℕ) → i ≤ n → value ≡ value_of_digits (take i ds) → greatest_number < value → number_at at n ds ≡ Err (fault.Number at)
number_too_great at i n value ds le e h = let more = fold-take_le ds i n 0 le in grind (arith, nat_tests)
