-- What is said of a status: whether a run began, what was handed on, and its number.
use Rattle.std.specs.Prelude.{ℕ, ◌≡◌, ◌⊎◌, List, Option, IfSome, ⊤}
use Rattle.msl_stage.specs.Endings.{IsHandedOn as HandsOn}
use Rattle.msl_io.specs.Causes.{Rose}
use Rattle.msl_run.specs.Headline.{end_of}
use Rattle.msl_run.specs.declared.status.Status.{Status}
use Rattle.msl_run.specs.declared.status.Status.TheVariants.{Done, Usage, Library, ScriptLong, Script, Need, Stream, Read, Write, Memory}

-- the words, the script, its need or the library keep a run from beginning
abbrev pub IsRefusal : Status → Type 0
IsRefusal status = IfSome (end_of status) (λ _. ⊥)

-- all that was taken was handed on, unless no run began, writing failed or memory ran out
abbrev pub IsHandedOn : Status → Option (List ℕ) → Option (List ℕ) → Type 0
IsHandedOn status flushed held = IfSome (end_of status) (λ end. HandsOn end flushed held)

-- a flush gives Done, or a fault of writing
abbrev pub Flushed : Status → ℕ → ℕ → Type 0
Flushed status before now = ((status ≡ Done) × (now ≡ before)) ⊎ ((status ≡ Write) × Rose before now)

-- nothing kept a run from its end but want of memory
abbrev pub IsComplete : Status → Type 0
IsComplete Done = ⊤
IsComplete (Stream f) = ⊤
IsComplete Memory = ⊤
IsComplete Read = ⊥
IsComplete Write = ⊥
IsComplete Usage = ⊥
IsComplete Library = ⊥
IsComplete ScriptLong = ⊥
IsComplete (Script kind at) = ⊥
IsComplete (Need need have) = ⊥

-- the exit status of the program
abbrev pub code_of : Status → ℕ
code_of Done = 0
code_of (Stream f) = 1
code_of Usage = 2
code_of ScriptLong = 2
code_of (Script kind at) = 2
code_of (Need need have) = 2
code_of Library = 3
code_of Read = 3
code_of Write = 3
code_of Memory = 4
