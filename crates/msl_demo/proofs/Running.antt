-- What a run of the demonstration writes.
use Rattle.std.proofs.Common.{arith, ◌≡◌, ◌≤◌, ℕ, List, length, sym, ap, ◌∙◌, subst}
use Rattle.std.proofs.lemmas.List.FromFn.{length-map-range_with_len}
use Rattle.std.proofs.lemmas.List.Sorted.{length_permutation}
use Rattle.msl_base.specs.Streams.{Record, Stream, done, stream}
use Rattle.msl_io.specs.Lines.{reads, most_lines}
use Rattle.msl_program.specs.Runs.{RunsMain}
use Rattle.msl_demo_laws.specs.Demo.{demo_records, demo_line, DemoGives}
use Rattle.msl_demo_laws.specs.Laws.{demo_input, Writes}
use Rattle.msl_demo_laws.specs.Results.{demo_result, demo_results}
use Rattle.msl_demo_laws.specs.Script.{demo_script}
use Rattle.msl_demo.specs.declared.tally.Tally.{Tally}
use Rattle.msl_demo.specs.Outputs.{Makes, NeverFaults}
use Rattle.msl_demo.specs.Tallies.{AreFew, IsTallyOf}
use Rattle.msl_demo_laws.proofs.Bytes.{input_reads, no_run_faults, whole_runs_write}
use Rattle.msl_demo_laws.proofs.Running.{runs_give_results}

module _ (n : ℕ) (few : n ≤ 100000) where
  few_lines : n ≤ most_lines
  few_lines = omega (arith, few)

  pub never_faults : NeverFaults demo_script (demo_input n)
  never_faults = no_run_faults n few_lines

  module _ (output : List ℕ) (made : Makes demo_script (demo_input n) output) where
    written : Writes n made.0
    written = whole_runs_write n few_lines made.0 made.1

    all : reads output ≡ stream made.0 done
    all = ap reads made.2 ∙ written.reads_back

    over : RunsMain demo_script (stream (demo_records n) done) (stream made.0 done)
    over = subst (λ (X : Stream). RunsMain demo_script X (stream made.0 done)) (input_reads n few_lines) made.1

    as_many : length made.0 ≡ n
    as_many = length_permutation (demo_results n) made.0 (runs_give_results n (stream made.0 done) over).1 ∙ length-map-range_with_len demo_result 0 n

    pub is_whole : (reads output).ending ≡ done
    is_whole = ap (λ (X : Stream). X.ending) all

    pub are_few : AreFew (reads output).records
    are_few = subst (λ (X : Stream). AreFew X.records) (sym all) (record { results = written.small; few = omega (arith, as_many, few) })

    pub gives : (t : Tally) (line : List ℕ) → IsTallyOf (reads output).records t → ((outs : List Record) → IsTallyOf outs t → line ≡ demo_line n outs) → DemoGives n line
    gives t line tally says =
        subst (DemoGives n) (sym (says made.0 (subst (λ (X : Stream). IsTallyOf X.records t) all tally))) written.gives
