-- Calls of a script's functions by a stage.
use Rattle.std.specs.Prelude.{ℕ, ◌==◌, ℤ, pos, List, length, slice_index_or, Result, Ok, Err, if◌then◌else◌}
use Rattle.msl_base.specs.declared.fault.Fault.{Fault}
use Rattle.msl_base.specs.declared.fault.Fault.TheVariants.{Shape}
use Rattle.msl_base.specs.Streams.{Record, Outcome}
use Rattle.msl_fun.specs.declared.funs.Fun.{Fun}
use Rattle.msl_fun.specs.Meaning.{mean, limited, params_of}
use Rattle.msl_lists.specs.Whole.{at_stage, ◌>>=◌}

-- the results of function f at a record, or its fault
abbrev pub run : List Fun → ℕ → ℕ → Record → Outcome
run funs stage f x = at_stage stage (limited 0 (mean funs f x))

abbrev pub first_of : Record → ℤ
first_of xs = slice_index_or xs 0 (pos 0)

-- the first result
abbrev pub number_by : List Fun → ℕ → ℕ → Record → Result ℤ Fault
number_by funs stage f x = run funs stage f x >>= λ rs. Ok (first_of rs)

-- only where the record has so many numbers
abbrev pub if_wide : ℕ → ℕ → Record → Outcome → Outcome
if_wide stage want x r = if length x == want then r else Err (Shape stage (length x) want)

-- a function at each record of its width
abbrev pub atomic_outcome : List Fun → ℕ → ℕ → Record → Outcome
atomic_outcome funs stage f x = if_wide stage (params_of funs f) x (run funs stage f x)
