-- What examples make of a record.
use Rattle.std.specs.Prelude.{[], ◌∷◌, Ok, Err}
use Rattle.msl_base.specs.declared.fault.Fault.TheVariants.{Shape}
use Rattle.msl_base.specs.Streams.{Record, Outcome}

-- its first number alone; a fault where it has none
abbrev pub first_of : Record → Outcome
first_of [] = Err (Shape 1 0 1)
first_of (x ∷ xs) = Ok (x ∷ [])
