-- The steps of a division, and what a call makes of what it was lent.
use Rattle.std.specs.Prelude.{◌≡◌, ℕ, All, Bool, List, length, Result, Ok, Err}
use Rattle.msl_base.specs.Streams.{Record}
use Rattle.msl_base.specs.declared.answer.Halt.{Halt}
use Rattle.msl_base.specs.declared.fault.Fault.{Fault}
use Rattle.msl_fun.specs.declared.funs.Fun.{Fun}
use Rattle.msl_fun.specs.Meaning.{holds}
use Rattle.msl_lists.specs.Whole.{◌>>=◌}
use Rattle.msl_program.specs.Calls.{number_by}
use Rattle.msl_program.specs.declared.script.DivCon.{DivCon}

-- whether a problem is simple
abbrev pub whether_simple : List Fun → DivCon → ℕ → Record → Result Bool Fault
whether_simple funs d stage x = number_by funs stage d.simple x >>= λ s. Ok (holds s)

-- each of these records has so many numbers
abbrev pub AreWide : ℕ → List Record → Type 0
AreWide n xs = All (λ x. length x ≡ n) xs

-- what a call leaves there, or the halt that it was lent
abbrev pub left_by : {A B C : Type 0} → Result A B → C → Halt → Result C Halt
left_by (Ok a) y why = Ok y
left_by (Err b) y why = Err why
