-- What a call of a function comes to, whatever the number of the stage that makes it.
use Rattle.std.specs.Prelude.{◌≡◌, ℕ, Result}
use Rattle.msl_base.specs.declared.fault.Fault.{Fault}
use Rattle.msl_fun.specs.declared.fault.EvalFault.{EvalFault}
use Rattle.msl_lists.specs.Whole.{at_stage}

-- what is wanted at each stage is this, with its fault as one of the stage
abbrev pub Gives : {A : Type 0} → (ℕ → Result A Fault) → Result A EvalFault → Type 0
Gives want r = (stage : ℕ) → want stage ≡ at_stage stage r
