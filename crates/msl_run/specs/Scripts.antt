-- How the script of a file is come by, and its plan.
use Rattle.std.specs.Prelude.{ℕ, ◌≡◌, ◌<◌, ◌≤◌, List, length, Option, Result, Ok, Err, ⊤}
use Rattle.msl_base.specs.declared.limits.TheConstants.{MOST_SCRIPT_BYTES}
use Rattle.msl_io.specs.Fetching.{FileIs}
use Rattle.msl_program.specs.Script.{Script}
use Rattle.msl_program.specs.Need.{need}
use Rattle.msl_grammar.specs.ScriptGrammar.{ReadsTo}
use Rattle.msl_run.specs.Causes.{Count, Rises, Stays}
use Rattle.msl_run.specs.declared.status.Status.{Status}
use Rattle.msl_run.specs.declared.status.Status.TheVariants.{Done, Usage, Library, ScriptLong, Script as Refused, Need, Stream as Faulted, Read, Write, Memory}

-- the script of a text, or why there is none
abbrev pub IsScriptIn : List ℕ → Result Script Status → Type 0
IsScriptIn text (Ok s) = (length text ≤ MOST_SCRIPT_BYTES) × ReadsTo text (Ok s)
IsScriptIn text (Err ScriptLong) = MOST_SCRIPT_BYTES < length text
IsScriptIn text (Err (Refused kind at)) = (length text ≤ MOST_SCRIPT_BYTES) × ReadsTo text (Err (kind, at))
IsScriptIn text (Err Library) = ⊤
IsScriptIn text (Err Memory) = ⊤
IsScriptIn text (Err Done) = ⊥
IsScriptIn text (Err Usage) = ⊥
IsScriptIn text (Err (Need need have)) = ⊥
IsScriptIn text (Err (Faulted f)) = ⊥
IsScriptIn text (Err Read) = ⊥
IsScriptIn text (Err Write) = ⊥

-- the same of a file, which has some text where the library doesn't tell it
abbrev pub IsScriptOf : Option (List ℕ) → Result Script Status → Type 0
IsScriptOf file r = (text : List ℕ) × FileIs file text × IsScriptIn text r

-- the library's count rose where it failed, and is as before where it did not
abbrev pub Declines : Result Script Status → Count → Type 0
Declines (Ok s) c = Stays c
Declines (Err Library) c = Rises c
Declines (Err ScriptLong) c = Stays c
Declines (Err (Refused kind at)) c = Stays c
Declines (Err Memory) c = Stays c
Declines (Err Done) c = ⊥
Declines (Err Usage) c = ⊥
Declines (Err (Need need have)) c = ⊥
Declines (Err (Faulted f)) c = ⊥
Declines (Err Read) c = ⊥
Declines (Err Write) c = ⊥

-- There is a plan where there are enough processes, and memory can run out there alone; else the answer is Need.
abbrev pub IsPlanned : {P : Type 0} → Script → ℕ → Result P Status → Type 0
IsPlanned s have (Ok plan) = need s ≤ have
IsPlanned s have (Err (Need wanted there)) = (have < need s) × (wanted ≡ need s) × (there ≡ have)
IsPlanned s have (Err Memory) = need s ≤ have
IsPlanned s have (Err Done) = ⊥
IsPlanned s have (Err Usage) = ⊥
IsPlanned s have (Err Library) = ⊥
IsPlanned s have (Err ScriptLong) = ⊥
IsPlanned s have (Err (Refused kind at)) = ⊥
IsPlanned s have (Err (Faulted f)) = ⊥
IsPlanned s have (Err Read) = ⊥
IsPlanned s have (Err Write) = ⊥
