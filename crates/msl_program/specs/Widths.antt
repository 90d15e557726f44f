-- How many parameters and results a function has to have.
use Rattle.std.specs.Prelude.{◌<◌, IsTrue, ℕ, ◌*◌, Bool, true, ◌==◌, nat_le, List, length}
use Rattle.msl_base.specs.declared.limits.TheConstants.{MOST_PARAMS}
use Rattle.msl_fun.specs.declared.funs.Fun.{Fun}
use Rattle.msl_fun.specs.Meaning.{params_of, results_of}
use Rattle.msl_program.specs.declared.width.Width.{Width}
use Rattle.msl_program.specs.declared.width.Width.TheVariants as width

-- so many parameters or results may be there
abbrev pub allows : Width → ℕ → Bool
allows width.Any n = true
allows (width.Exactly w) n = n == w
allows (width.AtLeast w) n = nat_le w n
allows (width.AtMost w) n = nat_le n w
allows (width.Shared parts) n = nat_le (parts * n) MOST_PARAMS

-- one of the functions, with so many parameters and results
pub record IsFunction (funs : List Fun) (taken given : Width) (f : ℕ) : Type 0 where
  pub within : f < length funs
  pub params : IsTrue (allows taken (params_of funs f))
  pub results : IsTrue (allows given (results_of funs f))
