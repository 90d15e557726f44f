-- Laws of the demonstration.
use Rattle.std.specs.Prelude.{◌≡◌, ◌≤◌, ℕ, List, All, IsPermutation, Result, Ok}
use Rattle.msl_base.specs.declared.fault.Fault.{Fault}
use Rattle.msl_base.specs.Streams.{Record, Stream, stream, done, failed}
use Rattle.msl_io.specs.Lines.{reads, most_lines}
use Rattle.msl_io.specs.Text.{text}
use Rattle.msl_read.specs.Reading.{Refusal}
use Rattle.msl_program.specs.Script.{Script}
use Rattle.msl_program.specs.Runs.{RunsMain, SeqRuns}
use Rattle.msl_grammar.specs.ScriptGrammar.{ReadsTo}
use Rattle.msl_demo_laws.specs.Demo.{demo_text, demo_records, demo_line, DemoGives}
use Rattle.msl_demo_laws.specs.Script.{demo_script}
use Rattle.msl_demo_laws.specs.Results.{demo_results, the_line, IsResult}

-- the text is never refused, nor read as another script
abbrev pub IsReadOnlySo : Type 0
IsReadOnlySo = (r : Result Script Refusal) → ReadsTo demo_text r → r ≡ Ok demo_script

-- ---- runs over the first n records

-- no fault, whatever the order, and the results in some order
abbrev pub RunsGiveResults : Type 0
RunsGiveResults = (n : ℕ) (Y : Stream) → RunsMain demo_script (stream (demo_records n) done) Y → (Y.ending ≡ done) × IsPermutation (demo_results n) Y.records

-- in the order of `seq`
abbrev pub SeqGivesResults : Type 0
SeqGivesResults = (n : ℕ) → SeqRuns demo_script (stream (demo_records n) done) (stream (demo_results n) done)

-- and a run may have that order
abbrev pub ResultsAreRun : Type 0
ResultsAreRun = (n : ℕ) → RunsMain demo_script (stream (demo_records n) done) (stream (demo_results n) done)

abbrev pub ResultsAreSmall : Type 0
ResultsAreSmall = (n : ℕ) (outs : List Record) → IsPermutation (demo_results n) outs → All IsResult outs

-- ---- the line

-- it doesn't depend on the order of the results
abbrev pub LineIsClosed : Type 0
LineIsClosed = (n : ℕ) (outs : List Record) → IsPermutation (demo_results n) outs → demo_line n outs ≡ the_line n

-- there is one line, and only this one
abbrev pub GivesTheLine : Type 0
GivesTheLine = (n : ℕ) → DemoGives n (the_line n)

abbrev pub GivesOnlyTheLine : Type 0
GivesOnlyTheLine = (n : ℕ) (line : List ℕ) → DemoGives n line → line ≡ the_line n

abbrev pub GivesOneLine : Type 0
GivesOneLine = (n : ℕ) (line other : List ℕ) → DemoGives n line → DemoGives n other → line ≡ other

-- ---- runs over bytes

-- the text of the first n records
abbrev pub demo_input : ℕ → List ℕ
demo_input n = text (demo_records n)

abbrev pub InputReads : Type 0
InputReads = (n : ℕ) → n ≤ most_lines → reads (demo_input n) ≡ stream (demo_records n) done

abbrev pub NoRunFaults : Type 0
NoRunFaults = (n : ℕ) → n ≤ most_lines → (outs : List Record) (f : Fault) → RunsMain demo_script (reads (demo_input n)) (stream outs (failed f)) → ⊥

-- what a whole run writes reads as its records, and gives the line
pub record Writes (n : ℕ) (outs : List Record) : Type 0 where
  pub reads_back : reads (text outs) ≡ stream outs done
  pub small : All IsResult outs
  pub gives : DemoGives n (demo_line n outs)

abbrev pub WholeRunsWrite : Type 0
WholeRunsWrite = (n : ℕ) → n ≤ most_lines → (outs : List Record) → RunsMain demo_script (reads (demo_input n)) (stream outs done) → Writes n outs
