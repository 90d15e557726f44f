-- What is worked out anew along a path.
use Rattle.std.specs.Prelude.{◌≡◌, ℕ, List, Option, Some, None, Ok, Err}
use Rattle.msl_base.specs.Streams.{Record, Outcome}
use Rattle.msl_fun.specs.declared.funs.Fun.{Fun}
use Rattle.msl_program.specs.Along.{along}

abbrev pub record_of : Outcome → Option Record
record_of (Ok x) = Some x
record_of (Err f) = None

-- what function f gives along the path, and none exactly where it faults on the way, whatever the stage
abbrev pub Replays : List Fun → ℕ → Record → List ℕ → Option Record → Type 0
Replays funs f root q r = (stage : ℕ) → r ≡ record_of (along funs stage f root q)
