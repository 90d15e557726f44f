-- What comes of a script that is run over bytes.
use Rattle.std.specs.Prelude.{ℕ, ◌≡◌, List}
use Rattle.msl_base.specs.declared.fault.Fault.{Fault}
use Rattle.msl_base.specs.Streams.{Record, stream, done, failed}
use Rattle.msl_io.specs.Lines.{reads}
use Rattle.msl_io.specs.Text.{text}
use Rattle.msl_program.specs.Script.{Script}
use Rattle.msl_program.specs.Runs.{RunsMain}

-- the output is the text of records that the script may make of the input
abbrev pub Makes : Script → List ℕ → List ℕ → Type 0
Makes s input output = (outs : List Record) × RunsMain s (reads input) (stream outs done) × (output ≡ text outs)

-- nothing that the script may make of the input ends with a fault
abbrev pub NeverFaults : Script → List ℕ → Type 0
NeverFaults s input = (outs : List Record) (f : Fault) → RunsMain s (reads input) (stream outs (failed f)) → ⊥
