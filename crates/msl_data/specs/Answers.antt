-- What a run of a data program answers.
use Rattle.std.specs.Prelude.{◌≡◌, Result, Ok, Err}
use Rattle.msl_base.specs.Records.{Kept}
use Rattle.msl_base.specs.Streams.{Outcome}
use Rattle.msl_base.specs.declared.answer.Halt.{Halt}
use Rattle.msl_local.specs.Outcomes.{Stops}

-- the record that is wanted, or its halt
abbrev pub Gives : Outcome → Result Kept Halt → Type 0
Gives want (Ok r) = want ≡ Ok r.numbers
Gives want (Err h) = Stops want h
