-- Each record has an outcome.
use Rattle.std.specs.Prelude.{List, [], ◌∷◌, Ok, Err, refl}
use Rattle.msl_base.specs.Streams.{Record, Outcome}
use Rattle.msl_program.specs.Calls.{atomic_outcome}
use Rattle.msl_program.specs.Data.{data_outcome}
use Rattle.msl_program.specs.Divide.{divcon_outcome}
use Rattle.msl_program.specs.Searches.{first_best_outcome}
use Rattle.msl_program.proofs.BestOfLaws.{first_best_is_best}
use Rattle.msl_line.specs.Duties.{Duty, function, program, division, search, first_search, DutyGives, Does}

gives_some : (d : Duty) (x : Record) → (r : Outcome) × DutyGives d x r
gives_some (function k funs f) x = (atomic_outcome funs k f x, refl)
gives_some (program k funs p) x = (data_outcome funs p k x, refl)
gives_some (division k funs d) x = (divcon_outcome funs d k x, refl)
gives_some (search k funs b) x = (first_best_outcome funs b k x, first_best_is_best funs b k x)
gives_some (first_search k funs b) x = (first_best_outcome funs b k x, refl)

behind : (d : Duty) (ds : List Duty) (x : Record) (m : Outcome) → DutyGives d x m → ((y : Record) → (r : Outcome) × Does ds y r) → (r : Outcome) × Does (d ∷ ds) x r
behind d ds x (Ok y) h more = let m = more y in (m.0, (Ok y, h, m.1))
behind d ds x (Err f) h more = (Err f, (Err f, h, refl))

pub does_some : (ds : List Duty) (x : Record) → (r : Outcome) × Does ds x r
does_some [] x = (Ok x, refl)
does_some (d ∷ ds) x = let m = gives_some d x in behind d ds x m.0 m.1 (does_some ds)
