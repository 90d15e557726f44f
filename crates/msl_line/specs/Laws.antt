-- Laws of lines and of workers.
use Rattle.std.specs.Prelude.{ℕ, List, true, false}
use Rattle.msl_base.specs.Streams.{Record, Outcome, Stream}
use Rattle.msl_program.specs.Script.{Script}
use Rattle.msl_program.specs.declared.stage.Stage.{Stage}
use Rattle.msl_program.specs.Fitting.{Fits}
use Rattle.msl_stage.specs.declared.step.Step.{Step}
use Rattle.msl_stage.specs.Lines.{LineRuns}
use Rattle.msl_line.specs.declared.how.How.{How}
use Rattle.msl_line.specs.Duties.{Duty, Does}
use Rattle.msl_line.specs.Lines.{duties_of, IsLineOf, OneMeans, StageMeans}

-- what a line of a stage makes of a stream is what the stage makes of it
abbrev pub LineMeans : {R : Type 0} → How R → Script → Stage → Type 0
LineMeans how s st =
    Fits s false st → (k : ℕ) (ss : List (Step (List Duty))) (X Y : Stream) → IsLineOf how s k st ss → LineRuns Does s.funs ss X Y → StageMeans how s k st X Y

-- what a worker that is a whole stage makes of a record is what the stage makes of it
abbrev pub WorkerMeans : {R : Type 0} → How R → Script → Stage → Type 0
WorkerMeans how s st = Fits s true st → (k : ℕ) (x : Record) (r : Outcome) → Does (duties_of how s k st) x r → OneMeans how s k st x r
