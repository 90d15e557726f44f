-- Runs over the text of the demonstration's records.
use Rattle.std.proofs.Common.{arith, ◌≡◌, ◌<◌, ◌≤◌, ℕ, ℤ, pos, List, [], ◌∷◌, map, refl, subst}
use Rattle.std.proofs.lemmas.Int.{ints}
use Rattle.std.proofs.lemmas.List.Elements.{All-from_recursion, All-weaker}
use Rattle.std.proofs.lemmas.List.FromFn.{length-map-range_with_len}
use Rattle.std.proofs.lemmas.List.Sorted.{length_permutation}
use Rattle.std.specs.Int.{w64}
use Rattle.std.specs.List.{AllByRecursion, range_with_len}
use Rattle.std.specs.Prelude.{FitsSigned}
use Rattle.msl_base.specs.declared.fault.Fault.{Fault}
use Rattle.msl_base.specs.Streams.{Record, Stream, stream, done, failed}
use Rattle.msl_io.specs.Lines.{reads, most_lines}
use Rattle.msl_io_laws.specs.RoundTrip.{IsReadable}
use Rattle.msl_io_laws.proofs.Texts.{reads_back}
use Rattle.msl_program.specs.Runs.{RunsMain}
use Rattle.msl_demo_laws.specs.Demo.{demo_record, demo_records}
use Rattle.msl_demo_laws.specs.Script.{demo_script}
use Rattle.msl_demo_laws.specs.Results.{first_of, second_of, demo_result, demo_results, IsSmall, IsResult}
use Rattle.msl_demo_laws.specs.Laws.{demo_input, InputReads, NoRunFaults, WholeRunsWrite}
use Rattle.msl_demo_laws.proofs.Running.{runs_give_results}
use Rattle.msl_demo_laws.proofs.OneLine.{text_is_script, results_are_small}

pair_readable : (a b : ℕ) → a < 1000 → b < 1000 → IsReadable (pos a ∷ pos b ∷ [])
pair_readable a b low few = record {
  few = omega arith;
  fit = All-from_recursion (FitsSigned w64) (pos a ∷ pos b ∷ []) (omega (arith, ints), (omega (arith, ints), tt));
}

records_readable : (ks : List ℕ) → AllByRecursion IsReadable (map demo_record ks)
records_readable [] = tt
records_readable (k ∷ ks) = (pair_readable (first_of k) (second_of k) (omega arith) (omega arith), records_readable ks)

pub input_reads : InputReads
input_reads n few =
    reads_back (demo_records n) (record {
      few = omega (arith, few, length-map-range_with_len demo_record 0 n);
      each = All-from_recursion IsReadable (demo_records n) (records_readable (range_with_len 0 n));
    })

module _ (n : ℕ) (few : n ≤ most_lines) (Y : Stream) where
  over_records : RunsMain demo_script (reads (demo_input n)) Y → RunsMain demo_script (stream (demo_records n) done) Y
  over_records run = subst (λ (X : Stream). RunsMain demo_script X Y) (input_reads n few) run

not_done : (f : Fault) → failed f ≡ done → ⊥
not_done f e = cc

pub no_run_faults : NoRunFaults
no_run_faults n few outs f run =
    not_done f (runs_give_results n (stream outs (failed f)) (over_records n few (stream outs (failed f)) run)).0

small_fits : (z : ℤ) → IsSmall z → FitsSigned w64 z
small_fits z h = omega (arith, ints, h.0, h.1)

result_readable : (r : Record) → IsResult r → IsReadable r
result_readable r is = record { few = omega (arith, is.three); fit = All-weaker IsSmall (FitsSigned w64) small_fits r is.small }

pub whole_runs_write : WholeRunsWrite
whole_runs_write n few outs run =
    let over = over_records n few (stream outs done) run in
    let moved = (runs_give_results n (stream outs done) over).1 in
    let small = results_are_small n outs moved in
    record {
      reads_back = reads_back outs (record {
        few = omega (arith, few, length_permutation (demo_results n) outs moved, length-map-range_with_len demo_result 0 n);
        each = All-weaker IsResult IsReadable result_readable outs small;
      });
      small = small;
      gives = record { script = demo_script; reads = text_is_script; outs = outs; run = over; says = refl };
    }
