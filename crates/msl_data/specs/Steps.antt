-- When a step can be taken, and what it is to give.
use Rattle.std.specs.Prelude.{◌≡◌, ℕ, ℤ, List, Result, Ok, Err}
use Rattle.std.specs.Borrow.{Bor}
use Rattle.msl_base.specs.declared.fault.Fault.{Fault}
use Rattle.msl_base.specs.declared.answer.Halt.{Halt}
use Rattle.msl_fun.specs.declared.funs.Fun.{Fun}
use Rattle.msl_local.specs.Outcomes.{Stops}
use Rattle.msl_program.specs.declared.data.UseSpec.{UseSpec}
use Rattle.msl_program.specs.declared.data.DataStep.{DataStep}
use Rattle.msl_program.specs.Programs.{Program}
use Rattle.msl_program.specs.ProgramPromise.{IsStep, IsUse}
use Rattle.msl_program.specs.Data.{Value, Table, step_on}
use Rattle.msl_program.specs.Shaped.{AreShaped}
use Rattle.msl_data.specs.declared.context.Context.{Context}
use Rattle.msl_data.specs.Tables.{values_of}

-- the step fits lines that have these values
pub record StepFits (funs : List Fun) (t : Table) (s : DataStep) : Type 0 where
  pub program : Program
  pub shaped : AreShaped program t
  pub fits : IsStep funs program s

-- the same of a function with so many arguments to come
pub record UseFits (funs : List Fun) (t : Table) (u : UseSpec) : Type 0 where
  pub program : Program
  pub shaped : AreShaped program t
  pub more : ℕ
  pub fits : IsUse funs program more u

abbrev pub IsReady : Context → DataStep → Type 0
IsReady c s = StepFits c.funs.now (values_of c.table.now) s

abbrev pub outcome_of : Context → ℕ → DataStep → Result Value Fault
outcome_of c stage s = step_on c.funs.now stage c.input.now (values_of c.table.now) s

-- the numbers that are wanted, or the halt
abbrev pub CutComes : Result (List ℤ) Fault → Result (Bor (List ℤ)) Halt → Type 0
CutComes want (Ok xs) = want ≡ Ok xs.now
CutComes want (Err h) = Stops want h
