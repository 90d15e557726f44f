-- What a worker does with a record.
use Rattle.std.specs.Prelude.{◌≡◌, ℕ, List, [], ◌∷◌, Ok, Err}
use Rattle.msl_base.specs.Streams.{Record, Outcome}
use Rattle.msl_fun.specs.declared.funs.Fun.{Fun}
use Rattle.msl_program.specs.declared.data.DataProg.{DataProg}
use Rattle.msl_program.specs.declared.script.DivCon.{DivCon}
use Rattle.msl_program.specs.declared.script.BnbSpec.{BnbSpec}
use Rattle.msl_program.specs.Calls.{atomic_outcome}
use Rattle.msl_program.specs.Data.{data_outcome}
use Rattle.msl_program.specs.Divide.{divcon_outcome}
use Rattle.msl_program.specs.Searches.{BestOf, first_best_outcome}

-- What is done at each record by the stage of a number: the function at a place of these, or a data program, a division or
-- a search over them. A search gives any best answer, or the one of `seq`.
pub data Duty : Type 0 where
  function : ℕ → List Fun → ℕ → Duty
  program : ℕ → List Fun → DataProg → Duty
  division : ℕ → List Fun → DivCon → Duty
  search : ℕ → List Fun → BnbSpec → Duty
  first_search : ℕ → List Fun → BnbSpec → Duty

-- what may become of a record
abbrev pub DutyGives : Duty → Record → Outcome → Type 0
DutyGives (function stage funs f) x r = r ≡ atomic_outcome funs stage f x
DutyGives (program stage funs p) x r = r ≡ data_outcome funs p stage x
DutyGives (division stage funs d) x r = r ≡ divcon_outcome funs d stage x
DutyGives (search stage funs b) x r = BestOf funs b stage x r
DutyGives (first_search stage funs b) x r = r ≡ first_best_outcome funs b stage x

-- by one duty after the other, up to the first fault
abbrev pub Does : List Duty → Record → Outcome → Type 0
Does [] x r = r ≡ Ok x
Does (d ∷ ds) x r = (m : Outcome) × DutyGives d x m × (elim m [ Ok y ↦ Does ds y r | Err f ↦ r ≡ Err f ])
