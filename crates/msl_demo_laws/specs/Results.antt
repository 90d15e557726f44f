-- What the demonstration's script makes of its records, in closed form.
use Rattle.std.specs.Prelude.{◌≡◌, ℕ, ◌+◌, ◌*◌, ◌%◌, ℤ, pos, ◌≤ℤ◌, List, [], ◌∷◌, ◌++◌, length, map, All, codes, decimal}
use Rattle.std.specs.List.{range_with_len, sum_by}
use Rattle.msl_base.specs.Streams.{Record}

-- the two numbers of record k
abbrev pub first_of : ℕ → ℕ
first_of k = k % 1000

abbrev pub second_of : ℕ → ℕ
second_of k = (7 * k) % 1000

-- of numbers a and b: a + b, then with a * b, then with a - b
abbrev pub result_of : ℕ → ℕ → Record
result_of a b = pos (a + b) ∷ pos (a + b + a * b) ∷ pos (2 * a + a * b) ∷ []

abbrev pub demo_result : ℕ → Record
demo_result k = result_of (first_of k) (second_of k)

abbrev pub demo_results : ℕ → List Record
demo_results n = map demo_result (range_with_len 0 n)

-- the sum of the numbers of one result, and of all
abbrev pub weight_of : ℕ → ℕ → ℕ
weight_of a b = 4 * a + 2 * b + 2 * (a * b)

abbrev pub demo_weight : ℕ → ℕ
demo_weight k = weight_of (first_of k) (second_of k)

abbrev pub demo_sum : ℕ → ℕ
demo_sum n = sum_by demo_weight (range_with_len 0 n)

-- the line, with nothing of it left open
abbrev pub the_line : ℕ → List ℕ
the_line n =
    codes "demo: " ++ decimal n
    ++ codes " records in, " ++ decimal n
    ++ codes " records out, " ++ decimal (3 * n)
    ++ codes " numbers, sum " ++ decimal (demo_sum n)
    ++ codes "\n"

abbrev pub IsSmall : ℤ → Type 0
IsSmall z = (pos 0 ≤ℤ z) × (z ≤ℤ pos 999999)

-- three small numbers
pub record IsResult (r : Record) : Type 0 where
  pub three : length r ≡ 3
  pub small : All IsSmall r
