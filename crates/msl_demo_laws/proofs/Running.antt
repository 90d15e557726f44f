-- What the demonstration's script makes of its records.
use Rattle.std.proofs.Common.{arith, ◌≡◌, ◌<◌, ◌≤◌, ℕ, ◌+◌, ◌*◌, ℤ, pos, ◌+ℤ◌, ◌-ℤ◌, List, [], ◌∷◌, map, Ok, refl, sym, ap, ◌∙◌, subst}
use Rattle.std.proofs.lemmas.Int.{ints}
use Rattle.std.proofs.lemmas.List.Elements.{All-from_recursion, recursion_from_All}
use Rattle.std.proofs.lemmas.List.Sorted.{All-permutation, IsPermutation-map}
use Rattle.std.proofs.lemmas.Nat.{mul-le}
use Rattle.std.proofs.lemmas.Option.{same_Some}
use Rattle.std.specs.List.{AllByRecursion, range_with_len}
use Rattle.std.specs.Prelude.{IsPermutation}
use Rattle.msl_base.specs.Streams.{Record, Outcome, Stream, stream, done, Pointwise, pointwise}
use Rattle.msl_program.specs.declared.data.DataProg.{DataProg}
use Rattle.msl_program.specs.declared.stage.Stage.TheVariants.{Atomic, Data}
use Rattle.msl_program.specs.Calls.{atomic_outcome}
use Rattle.msl_program.specs.Data.{data_outcome}
use Rattle.msl_program.specs.Runs.{One, RunsMain, seq_one}
use Rattle.msl_program.proofs.SeqLaws.{seq_run_is}
use Rattle.msl_base.proofs.StreamLaws.{Is, is_run}
use Rattle.msl_demo_laws.specs.Demo.{demo_record, demo_records}
use Rattle.msl_demo_laws.specs.Script.{mix, tot, demo_script}
use Rattle.msl_demo_laws.specs.Results.{first_of, second_of, result_of, demo_result, demo_results}
use Rattle.msl_demo_laws.specs.Laws.{RunsGiveResults, SeqGivesResults, ResultsAreRun}
use Rattle.msl_demo_laws.proofs.Faultless.{pointwise_gives, unordered_gives}
use Rattle.msl_demo_laws.proofs.Outcomes.{mixed, mix_gives}
use Rattle.msl_demo_laws.proofs.Sums.{summed, tot_gives}

-- ---- one record

abbrev pair : ℕ → ℕ → Record
pair a b = pos a ∷ pos b ∷ []

module _ (a b : ℕ) (low : a < 1000) (few : b < 1000) where
  product : a * b ≤ 999 * 999
  product = mul-le a b 999 999 (omega (arith, low)) (omega (arith, few))

  pair_mixed : atomic_outcome (mix ∷ []) 1 0 (pair a b) ≡ Ok (mixed (pair a b))
  pair_mixed = mix_gives (pos a) (pos b) (omega (arith, ints, low, few)) (omega (arith, ints, product)) (omega (arith, ints, low, few))

  mixed_summed : data_outcome (mix ∷ []) tot 2 (mixed (pair a b)) ≡ Ok (summed (mixed (pair a b)))
  mixed_summed = tot_gives (pos (a + b)) (pos (a * b)) (pos a -ℤ pos b) (omega (arith, ints, low, few)) (omega (arith, ints, low, few, product)) (omega (arith, ints, low, few, product))

  summed_is : summed (mixed (pair a b)) ≡ result_of a b
  summed_is = let last : (pos (a + b + a * b) +ℤ (pos a -ℤ pos b)) ≡ pos (2 * a + a * b) = omega (arith, ints) in ap (λ (z : ℤ). pos (a + b) ∷ pos (a + b + a * b) ∷ z ∷ []) last

-- ---- the stages

abbrev IsInput : Record → Type 0
IsInput x = (k : ℕ) × (x ≡ demo_record k)

farm_gives : (x : Record) (r : Outcome) → IsInput x → One demo_script 1 (Atomic 0) x r → r ≡ Ok (mixed x)
farm_gives x r (k, is) h =
    h ∙ ap (atomic_outcome (mix ∷ []) 1 0) is ∙ pair_mixed (first_of k) (second_of k) (omega arith) (omega arith) ∙ ap (λ (y : Record). Ok (mixed y)) (sym is)

abbrev IsMixed : Record → Type 0
IsMixed x = (k : ℕ) × (x ≡ mixed (demo_record k))

team_gives : (x : Record) (r : Outcome) → IsMixed x → One demo_script 2 (Data 0 1) x r → r ≡ Ok (summed x)
team_gives x r (k, is) h =
    let which : tot ≡ h.0 = same_Some tot h.0 h.1 in
    h.2 ∙ ap (λ (p : DataProg). data_outcome (mix ∷ []) p 2 x) (sym which) ∙ ap (data_outcome (mix ∷ []) tot 2) is
    ∙ mixed_summed (first_of k) (second_of k) (omega arith) (omega arith) ∙ ap (λ (y : Record). Ok (summed y)) (sym is)

-- ---- all records

are_inputs : (ks : List ℕ) → AllByRecursion IsInput (map demo_record ks)
are_inputs [] = tt
are_inputs (k ∷ ks) = ((k, refl), are_inputs ks)

are_mixed : (ks : List ℕ) → AllByRecursion IsMixed (map mixed (map demo_record ks))
are_mixed [] = tt
are_mixed (k ∷ ks) = ((k, refl), are_mixed ks)

are_results : (ks : List ℕ) → map summed (map mixed (map demo_record ks)) ≡ map demo_result ks
are_results [] = refl
are_results (k ∷ ks) =
    ap (λ (r : Record). r ∷ map summed (map mixed (map demo_record ks))) (summed_is (first_of k) (second_of k) (omega arith) (omega arith)) ∙ ap (λ (rs : List Record). demo_result k ∷ rs) (are_results ks)

pub runs_give_results : RunsGiveResults
runs_give_results n Y run =
    let ks = range_with_len 0 n in
    let Z = run.0 in
    let W = run.2.0 in
    let X = map demo_record ks in
    let f = unordered_gives mixed (One demo_script 1 (Atomic 0)) IsInput farm_gives X (are_inputs ks) Z run.1 in
    let input : Z ≡ stream Z.records done = λ i. record { records = Z.records; ending = f.0 i } in
    let all : AllByRecursion IsMixed Z.records = recursion_from_All IsMixed Z.records (All-permutation IsMixed (map mixed X) Z.records f.1 (All-from_recursion IsMixed (map mixed X) (are_mixed ks))) in
    let given : W ≡ stream (map summed Z.records) done = pointwise_gives summed (One demo_script 2 (Data 0 1)) IsMixed team_gives Z.records all W (subst (λ (S : Stream). Pointwise (One demo_script 2 (Data 0 1)) S W) input run.2.1) in
    let whole = run.2.2 ∙ given in
    let moved = IsPermutation-map summed (map mixed X) Z.records f.1 in
    (ap (λ (S : Stream). S.ending) whole, subst (IsPermutation (demo_results n)) (sym (ap (λ (S : Stream). S.records) whole)) (subst (λ (l : List Record). IsPermutation l (map summed Z.records)) (are_results ks) moved))

-- ---- in the order of the input

farm_in_order : (X : List Record) → AllByRecursion IsInput X → pointwise (seq_one demo_script 1 (Atomic 0)) (stream X done) ≡ stream (map mixed X) done
farm_in_order X are =
    let f = seq_one demo_script 1 (Atomic 0) in
    pointwise_gives mixed (Is f) IsInput farm_gives X are (pointwise f (stream X done)) (is_run f (stream X done))

team_in_order : (X : List Record) → AllByRecursion IsMixed X → pointwise (seq_one demo_script 2 (Data 0 1)) (stream X done) ≡ stream (map summed X) done
team_in_order X are =
    let f = seq_one demo_script 2 (Data 0 1) in
    pointwise_gives summed (Is f) IsMixed (λ x r is h. team_gives x r is (tot, refl, h)) X are (pointwise f (stream X done)) (is_run f (stream X done))

pub seq_gives_results : SeqGivesResults
seq_gives_results n =
    let ks = range_with_len 0 n in
    let X = map demo_record ks in
    sym (ap (λ (S : Stream). pointwise (seq_one demo_script 2 (Data 0 1)) S) (farm_in_order X (are_inputs ks)) ∙ team_in_order (map mixed X) (are_mixed ks) ∙ ap (λ (l : List Record). stream l done) (are_results ks))

pub results_are_run : ResultsAreRun
results_are_run n =
    subst (RunsMain demo_script (stream (demo_records n) done)) (sym (seq_gives_results n)) (seq_run_is demo_script 1 demo_script.main (omega arith, (omega arith, tt)) (stream (demo_records n) done))
