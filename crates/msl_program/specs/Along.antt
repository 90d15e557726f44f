-- Paths down a tree of records, and the numbers along them.
use Rattle.std.specs.Prelude.{ℕ, pos, List, [], ◌∷◌, ◌++◌, Ok}
use Rattle.msl_base.specs.Streams.{Record, Outcome}
use Rattle.msl_fun.specs.declared.funs.Fun.{Fun}
use Rattle.msl_lists.specs.Whole.{◌>>=◌}
use Rattle.msl_program.specs.Calls.{run}

-- at each step the number of a part or a child
abbrev pub Path : Type 0
Path = List ℕ

-- how long a path may be
abbrev pub most_levels : ℕ
most_levels = 64

-- what function f gives along a path: at each step, of the record so far and the step's number
abbrev pub along : List Fun → ℕ → ℕ → Record → Path → Outcome
along funs stage f x [] = Ok x
along funs stage f x (j ∷ rest) = run funs stage f (x ++ pos j ∷ []) >>= λ y. along funs stage f y rest
