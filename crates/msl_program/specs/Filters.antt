-- A filter: what it makes of a stream, record by record, with a state.
use Rattle.std.specs.Prelude.{ℕ, ◌+◌, ◌-◌, ◌==◌, ◌||◌, ℤ, pos, int_lt, List, [], ◌∷◌, ◌++◌, length, Result, Ok, Err, if◌then◌else◌}
use Rattle.msl_base.specs.Streams.{Record, Ending, Stream, stream, done, failed, before}
use Rattle.msl_base.specs.declared.fault.Fault.{Fault}
use Rattle.msl_base.specs.declared.fault.Fault.TheVariants.{Shape, Count}
use Rattle.msl_fun.specs.declared.funs.Fun.{Fun}
use Rattle.msl_fun.specs.Meaning.{turns_of, params_of}
use Rattle.msl_lists.specs.Whole.{◌>>=◌, each}
use Rattle.msl_program.specs.Calls.{run, number_by}
use Rattle.msl_program.specs.declared.script.FilterSpec.{FilterSpec}

abbrev pub most_outputs : ℕ
most_outputs = 64

module _ (funs : List Fun) (f : FilterSpec) (stage : ℕ) where
  -- as many records as a number says
  abbrev pub so_many : (ℕ → Result Record Fault) → ℤ → Result (List Record) Fault
  so_many item c = if int_lt c (pos 0) || int_lt (pos most_outputs) c then Err (Count stage) else each (turns_of c) item

  -- the outputs of a record, and the state after it
  abbrev pub stepped : Record → Record → Result (List Record × Record) Fault
  stepped s x =
      if length s + length x == params_of funs f.count then
      (number_by funs stage f.count (s ++ x) >>= λ c.
      so_many (λ k. run funs stage f.item (s ++ (x ++ pos k ∷ []))) c >>= λ outputs.
      run funs stage f.next (s ++ x) >>= λ next. Ok (outputs, next))
      else Err (Shape stage (length x) (params_of funs f.count - length s))

  -- the outputs at the end of a whole stream
  abbrev pub flushed : Record → Result (List Record) Fault
  flushed s = number_by funs stage f.flush s >>= λ c. so_many (λ k. run funs stage f.last (s ++ pos k ∷ [])) c

  abbrev pub all_or_fault : Result (List Record) Fault → Stream
  all_or_fault (Ok ys) = stream ys done
  all_or_fault (Err e) = stream [] (failed e)

  abbrev pub at_end : Record → Ending → Stream
  at_end s done = all_or_fault (flushed s)
  at_end s e = stream [] e

  abbrev pub and_then : Result (List Record × Record) Fault → (Record → Stream) → Stream
  and_then (Ok r) rest = before r.0 (rest r.1)
  and_then (Err e) rest = stream [] (failed e)

  -- what a stream becomes from a state on
  abbrev pub filtered_from : Record → List Record → Ending → Stream
  filtered_from s [] e = at_end s e
  filtered_from s (x ∷ X) e = and_then (stepped s x) (λ t. filtered_from t X e)

  abbrev pub filtered : Stream → Stream
  filtered X = filtered_from f.state X.records X.ending
