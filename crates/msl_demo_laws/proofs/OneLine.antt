-- The demonstration's line is one line.
use Rattle.std.proofs.Common.{arith, ◌≡◌, ◌<◌, ℕ, ◌+◌, ◌*◌, ℤ, pos, List, [], ◌∷◌, ◌++◌, length, map, Result, Ok, refl, sym, ap, ◌∙◌, subst}
use Rattle.std.proofs.lemmas.Int.{ints}
use Rattle.std.proofs.lemmas.List.Concat.{length-flat_map}
use Rattle.std.proofs.lemmas.List.Elements.{All-from_recursion}
use Rattle.std.proofs.lemmas.List.FromFn.{length-map-range_with_len, length-range_with_len}
use Rattle.std.proofs.lemmas.List.Sorted.{All-permutation, IsPermutation-refl, length_permutation}
use Rattle.std.proofs.lemmas.List.Sums.{sum_by-cons}
use Rattle.std.proofs.lemmas.Nat.{mul-le}
use Rattle.std.specs.Fmt.{decimal, signed_decimal}
use Rattle.std.specs.List.{AllByRecursion, range_with_len, sum_by}
use Rattle.std.specs.Prelude.{codes}
use Rattle.msl_base.specs.Streams.{Record, stream, done}
use Rattle.msl_read.specs.Reading.{Refusal}
use Rattle.msl_program.specs.Script.{Script}
use Rattle.msl_program.specs.Runs.{RunsMain}
use Rattle.msl_grammar.specs.ScriptGrammar.{ReadsAs, script_of_text}
use Rattle.msl_grammar.proofs.Texts.{computed, of_computed}
use Rattle.msl_demo_laws.specs.Demo.{demo_text, demo_records, numbers, total}
use Rattle.msl_demo_laws.specs.Script.{demo_script}
use Rattle.msl_demo_laws.specs.Results.{first_of, second_of, result_of, weight_of, demo_result, demo_results, demo_weight, demo_sum, IsSmall, IsResult}
use Rattle.msl_demo_laws.specs.Laws.{IsReadOnlySo, ResultsAreSmall, LineIsClosed, GivesTheLine, GivesOnlyTheLine, GivesOneLine}
use Rattle.msl_demo_laws.proofs.Running.{runs_give_results, results_are_run}
use Rattle.msl_demo_laws.proofs.Summing.{plus, minus, total_is, total_moved, count_moved}

-- ---- the script

text_computes : script_of_text demo_text ≡ Ok demo_script
text_computes = refl

pub text_is_script : ReadsAs demo_text demo_script
text_is_script = of_computed demo_text (Ok demo_script) text_computes

pub is_read_only_so : IsReadOnlySo
is_read_only_so r h = sym (computed h) ∙ text_computes

-- ---- sums of results

three_each : (ks : List ℕ) → sum_by (λ (r : Record). length r) (map demo_result ks) ≡ 3 * length ks
three_each [] = refl
three_each (k ∷ ks) = omega (arith, three_each ks, sum_by-cons (λ (r : Record). length r) (demo_result k) (map demo_result ks))

weight_is : (a b : ℕ) → sum_by plus (result_of a b) ≡ weight_of a b
weight_is a b = omega arith

weights : (ks : List ℕ) → sum_by (λ (r : Record). sum_by plus r) (map demo_result ks) ≡ sum_by demo_weight ks
weights [] = refl
weights (k ∷ ks) =
    sum_by-cons (λ (r : Record). sum_by plus r) (demo_result k) (map demo_result ks) ∙ ap (λ (w : ℕ). w + sum_by (λ (r : Record). sum_by plus r) (map demo_result ks)) (weight_is (first_of k) (second_of k))
    ∙ ap (λ (w : ℕ). demo_weight k + w) (weights ks) ∙ sym (sum_by-cons demo_weight k ks)

none_below : (ks : List ℕ) → sum_by (λ (r : Record). sum_by minus r) (map demo_result ks) ≡ 0
none_below [] = refl
none_below (k ∷ ks) =
    let here : sum_by minus (demo_result k) ≡ 0 = refl in omega (arith, here, none_below ks, sum_by-cons (λ (r : Record). sum_by minus r) (demo_result k) (map demo_result ks))

-- ---- the line

-- by how many records went in and came out, how many numbers these have, and their sum
abbrev line_by : ℕ → ℕ → ℕ → ℤ → List ℕ
line_by n records count sum =
    codes "demo: " ++ decimal n
    ++ codes " records in, " ++ decimal records
    ++ codes " records out, " ++ decimal count
    ++ codes " numbers, sum " ++ signed_decimal sum
    ++ codes "\n"

pub line_is_closed : LineIsClosed
line_is_closed n outs moved =
    let ks = range_with_len 0 n in
    let records : length outs ≡ n = length_permutation (demo_results n) outs moved ∙ length-map-range_with_len demo_result 0 n in
    let count : length (numbers outs) ≡ 3 * n = count_moved (demo_results n) outs moved ∙ length-flat_map (λ (r : Record). r) (demo_results n) ∙ three_each ks ∙ ap (λ (m : ℕ). 3 * m) (length-range_with_len 0 n) in
    let sum : total (numbers outs) ≡ pos (demo_sum n) = omega (arith, ints, total_moved (demo_results n) outs moved, total_is (demo_results n), weights ks, none_below ks) in
    ap (λ (r : ℕ). line_by n r (length (numbers outs)) (total (numbers outs))) records ∙ ap (λ (m : ℕ). line_by n n m (total (numbers outs))) count ∙ ap (line_by n n (3 * n)) sum

pub gives_the_line : GivesTheLine
gives_the_line n = record {
  script = demo_script;
  reads = text_is_script;
  outs = demo_results n;
  run = results_are_run n;
  says = sym (line_is_closed n (demo_results n) (IsPermutation-refl (demo_results n)));
}

same_Ok : (s t : Script) → ◌≡◌ {A = Result Script Refusal} (Ok s) (Ok t) → s ≡ t
same_Ok s t e = cc

pub gives_only_the_line : GivesOnlyTheLine
gives_only_the_line n line d =
    let which : d.script ≡ demo_script = same_Ok d.script demo_script (is_read_only_so (Ok d.script) d.reads) in
    let run : RunsMain demo_script (stream (demo_records n) done) (stream d.outs done) = subst (λ (s : Script). RunsMain s (stream (demo_records n) done) (stream d.outs done)) which d.run in
    d.says ∙ line_is_closed n d.outs (runs_give_results n (stream d.outs done) run).1

pub gives_one_line : GivesOneLine
gives_one_line n line other d e = gives_only_the_line n line d ∙ sym (gives_only_the_line n other e)

-- ---- the numbers

result_small : (a b : ℕ) → a < 1000 → b < 1000 → IsResult (result_of a b)
result_small a b low few =
    let product = mul-le a b 999 999 (omega arith) (omega arith) in
    record {
      three = refl;
      small = All-from_recursion IsSmall (result_of a b) ((omega (arith, ints), omega (arith, ints)), ((omega (arith, ints), omega (arith, ints, product)), ((omega (arith, ints), omega (arith, ints, product)), tt)));
    }

results_small : (ks : List ℕ) → AllByRecursion IsResult (map demo_result ks)
results_small [] = tt
results_small (k ∷ ks) = (result_small (first_of k) (second_of k) (omega arith) (omega arith), results_small ks)

pub results_are_small : ResultsAreSmall
results_are_small n outs moved =
    All-permutation IsResult (demo_results n) outs moved (All-from_recursion IsResult (demo_results n) (results_small (range_with_len 0 n)))
