-- What one more record adds to a tally, and how great it may become.
use Rattle.std.proofs.Common.{arith, ◌≡◌, ◌<◌, ◌+◌, ◌*◌, pos, ◌+ℤ◌, List, [], ◌∷◌, ◌++◌, length, refl, Some, length-append}
use Rattle.std.proofs.lemmas.Int.{ints}
use Rattle.std.proofs.lemmas.List.Elements.{recursion_from_All, All-pop}
use Rattle.std.specs.List.{AllByRecursion}
use Rattle.std.specs.Prelude.{All, ◌≤ℤ◌}
use Rattle.msl_base.specs.Streams.{Record}
use Rattle.msl_demo_laws.specs.Demo.{numbers, total}
use Rattle.msl_demo_laws.specs.Results.{IsSmall, IsResult}
use Rattle.msl_demo_laws.proofs.Summing.{total-push, count-push, total_low, total_high}
use Rattle.msl_demo.specs.declared.tally.Tally.{Tally}
use Rattle.msl_demo.specs.Tallies.{AreFew, IsTallyOf, MayCount}

-- ---- the records so far

results_count : (outs : List Record) → AllByRecursion IsResult outs → length (numbers outs) ≡ 3 * length outs
results_count [] h = refl
results_count (r ∷ outs) h = omega (arith, length-append r (numbers outs), h.0.three, results_count outs h.1)

-- what a tally of records may have, with which this one can be counted too
pub record IsBounded (t : Tally) (r : Record) : Type 0 where
  pub records : t.records < 100000
  pub numbers : t.numbers < 300000
  pub low : pos 0 ≤ℤ t.sum
  pub high : t.sum ≤ℤ pos 299999700000
  pub three : length r ≡ 3
  pub small : All IsSmall r

total_within : (outs : List Record) (r : Record) → AreFew (outs ++ r ∷ []) → All IsResult outs × IsResult r × (length outs < 100000)
total_within outs r few =
    let both = All-pop IsResult (outs ++ r ∷ []) outs (Some r) refl few.results in
    (both.0, both.1, omega (arith, length-append outs (r ∷ []), few.few))

pub bounded : (t : Tally) (r : Record) → MayCount t r → IsBounded t r
bounded t r (outs, tally, few) =
    let h = total_within outs r few in
    record {
      records = omega (arith, tally.records, h.2);
      numbers = omega (arith, tally.count, results_count outs (recursion_from_All IsResult outs h.0), h.2);
      low = omega (arith, ints, tally.sum, total_low outs h.0);
      high = omega (arith, ints, tally.sum, total_high outs h.0, h.2);
      three = h.1.three;
      small = h.1.small;
    }

pub counted : (outs : List Record) (r : Record) (old new : Tally) → new.records ≡ old.records + 1 → new.numbers ≡ old.numbers + length r → new.sum ≡ old.sum +ℤ total r
    → IsTallyOf outs old → IsTallyOf (outs ++ r ∷ []) new
counted outs r old new records count sum h = record {
  records = omega (arith, records, h.records, length-append outs (r ∷ []));
  count = omega (arith, count, h.count, count-push outs r);
  sum = omega (arith, ints, sum, h.sum, total-push outs r);
}
