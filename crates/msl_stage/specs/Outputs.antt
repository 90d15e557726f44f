-- The outputs of a filter by its functions, and what calls of these may answer.
use Rattle.std.specs.Prelude.{◌≡◌, ℕ, ◌||◌, pos, int_lt, List, [], ◌∷◌, ◌++◌, Result, Ok, Err, if◌then◌else◌}
use Rattle.msl_base.specs.Records.{Kept}
use Rattle.msl_base.specs.Streams.{Record, Outcome}
use Rattle.msl_base.specs.declared.answer.Halt.{Halt}
use Rattle.msl_base.specs.declared.fault.Fault.{Fault}
use Rattle.msl_base.specs.declared.fault.Fault.TheVariants.{Count}
use Rattle.msl_fun.specs.declared.funs.Fun.{Fun}
use Rattle.msl_fun.specs.Meaning.{turns_of}
use Rattle.msl_lists.specs.Whole.{◌>>=◌, each}
use Rattle.msl_local.specs.Outcomes.{Stops}
use Rattle.msl_program.specs.Calls.{run, number_by}
use Rattle.msl_program.specs.Filters.{most_outputs}

module _ (funs : List Fun) (stage : ℕ) where
  -- how many outputs function f wants at s
  abbrev pub counted : ℕ → Record → Result ℕ Fault
  counted f s = number_by funs stage f s >>= λ c. if int_lt c (pos 0) || int_lt (pos most_outputs) c then Err (Count stage) else Ok (turns_of c)

  -- the outcomes of function f at s and a number behind it, for the first n numbers
  abbrev pub numbered : ℕ → Record → ℕ → Result (List Record) Fault
  numbered f s n = each n (λ k. run funs stage f (s ++ pos k ∷ []))

  -- as many as a function wants, each by another
  abbrev pub outputs : ℕ → ℕ → Record → Result (List Record) Fault
  outputs count item s = counted count s >>= λ n. numbered item s n

-- what is wanted is in `out`, or its halt
abbrev pub Fills : {A : Type 0} → Outcome → Result A Halt → Record → Type 0
Fills want (Ok _) out = want ≡ Ok out
Fills want (Err h) out = Stops want h

-- a record of what is wanted, or its halt
abbrev pub GivesRecord : Outcome → Result Kept Halt → Type 0
GivesRecord want (Ok r) = want ≡ Ok r.numbers
GivesRecord want (Err h) = Stops want h
