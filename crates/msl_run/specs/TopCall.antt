-- What the top call says of its words, of the script and of the run.
use Rattle.std.specs.Prelude.{ℕ, suc, zero, ◌≡◌, ◌≤◌, nat_le, length, ◌⊎◌, ◌==◌, ◌++◌, decimal, List, [], ◌∷◌, codes, Option, Some, None, Result, Ok, Err, MatchBool, ⊤}
use Rattle.std.specs.Io.KnownBytes.{Appends}
use Rattle.msl_base.specs.Streams.{Stream}
use Rattle.msl_base.specs.declared.limits.TheConstants.{MOST_SCRIPT_BYTES}
use Rattle.msl_io.specs.Fetching.{FileIs}
use Rattle.msl_io.specs.Text.{AppendsFront}
use Rattle.msl_lex.specs.Printing.{text_of}
use Rattle.msl_read.specs.Reading.{Refusal}
use Rattle.msl_program.specs.Script.{Script}
use Rattle.msl_program.specs.Need.{need}
use Rattle.msl_program.specs.Runs.{RunsMain, SeqRuns}
use Rattle.msl_grammar.specs.ScriptGrammar.{ReadsAs, ReadsTo}
use Rattle.msl_script_print.specs.ScriptText.{script_bits}
use Rattle.msl_stage.specs.Endings.{Ends}
use Rattle.msl_run.specs.Headline.{RanTold}
use Rattle.msl_demo.specs.declared.script.TheConstants.{DEMO_NEED}
use Rattle.msl_demo_laws.specs.Demo.{DemoGives}
use Rattle.msl_words.specs.declared.command_line.Command.{Command}
use Rattle.msl_words.specs.declared.command_line.Command.TheVariants.{Seq, Rounds, Check, Demo}
use Rattle.msl_run.specs.declared.status.Status.{Status}
use Rattle.msl_run.specs.declared.status.Status.TheVariants.{Done, Usage, Library, ScriptLong, Script as Refused, Need, Stream as Faulted, Read, Write, Memory}

-- ---- a script

-- nothing was read or written
abbrev pub IsUntouched : Ends → Type 0
IsUntouched e = (e.left_now ≡ e.left) × (e.held_now ≡ e.held)

-- A run of a script: what it left behind. `means` relates the script to what it may make of a stream.
abbrev pub Runs : (Script → Stream → Stream → Type 0) → Script → Ends → Status → Type 0
Runs means s e status = RanTold (means s) e status

-- what `check` writes of a script: its canonical text, and how many processes it needs
abbrev pub check_text : Script → List ℕ
check_text s = text_of (script_bits s) ++ (codes "# need " ++ (decimal (need s) ++ 10 ∷ []))

-- A text that is such was written; after a fault of writing a beginning of one.
abbrev pub Wrote : (List ℕ → Type 0) → Option (List ℕ) → Option (List ℕ) → Status → Type 0
Wrote P held now Done = (text : List ℕ) × P text × Appends held now text
Wrote P held now Write = (text : List ℕ) × P text × AppendsFront held now text
Wrote P held now Memory = now ≡ held
Wrote P held now Usage = ⊥
Wrote P held now Library = ⊥
Wrote P held now ScriptLong = ⊥
Wrote P held now (Refused kind at) = ⊥
Wrote P held now (Need need have) = ⊥
Wrote P held now (Faulted f) = ⊥
Wrote P held now Read = ⊥

-- the same, and nothing was read
abbrev pub Writes : (List ℕ → Type 0) → Ends → Status → Type 0
Writes P e status = (e.left_now ≡ e.left) × Wrote P e.held e.held_now status

-- `check` over a script
abbrev pub Checks : Script → Ends → Status → Type 0
Checks s = Writes (λ text. text ≡ check_text s)

-- `demo` with so many records
abbrev pub Demonstrates : ℕ → Ends → Status → Type 0
Demonstrates records = Writes (DemoGives records)

-- ---- how many processes there are

-- what is said where there are as many as are needed; else the answer is Need, and nothing was read or written
abbrev pub WithNeed : ℕ → ℕ → (Ends → Status → Type 0) → Ends → Status → Type 0
WithNeed needed have says e status = MatchBool (nat_le needed have) (says e status) ((status ≡ Need needed have) × IsUntouched e)

-- the same of a script
abbrev pub By : ℕ → (Script → Ends → Status → Type 0) → Script → Ends → Status → Type 0
By have says s = WithNeed (need s) have (says s)

-- The same where a number was given, which isn't 0.
abbrev pub ByGiven : ℕ → (Script → Ends → Status → Type 0) → Script → Ends → Status → Type 0
ByGiven zero says s e status = says s e status
ByGiven (suc k) says s e status = By (suc k) says s e status

-- ---- the script of a file
--
-- The order of the refusals is that of the nesting: each comes exactly where no earlier one does, but that the library
-- may fail and memory run out at any file.

-- what is said of a script, or its refusal where the text is none
abbrev pub OfReading : (Script → Ends → Status → Type 0) → Result Script Refusal → Ends → Status → Type 0
OfReading says (Ok s) e status = says s e status
OfReading says (Err (kind, at)) e status = (status ≡ Refused kind at) × IsUntouched e

-- what is said of a text, by what it is read as; one that is too long isn't read
abbrev pub OfText : (Script → Ends → Status → Type 0) → List ℕ → Ends → Status → Type 0
OfText says text e status =
    MatchBool (nat_le (length text) MOST_SCRIPT_BYTES) ((r : Result Script Refusal) × ReadsTo text r × OfReading says r e status) ((status ≡ ScriptLong) × IsUntouched e)

-- the script was not come by
abbrev pub GaveUp : Ends → Status → Type 0
GaveUp e status = ((status ≡ Library) ⊎ (status ≡ Memory)) × IsUntouched e

-- memory ran out before anything was read or written
abbrev pub Starved : Ends → Status → Type 0
Starved e status = (status ≡ Memory) × IsUntouched e

-- what is said of a file, by its text; where the library doesn't tell that, it is said of some text
abbrev pub OfFile : (Script → Ends → Status → Type 0) → Option (List ℕ) → Ends → Status → Type 0
OfFile says file e status = GaveUp e status ⊎ ((text : List ℕ) × FileIs file text × OfText says text e status)

-- ---- a command

-- it reads no records
abbrev pub ReadsNothing : Option Command → Type 0
ReadsNothing None = ⊤
ReadsNothing (Some (Seq name)) = ⊥
ReadsNothing (Some (Rounds name have)) = ⊥
ReadsNothing (Some (Check name have)) = ⊤
ReadsNothing (Some (Demo records have)) = ⊤

-- it fetches no script
abbrev pub FetchesNothing : Option Command → Type 0
FetchesNothing None = ⊤
FetchesNothing (Some (Seq name)) = ⊥
FetchesNothing (Some (Rounds name have)) = ⊥
FetchesNothing (Some (Check name have)) = ⊥
FetchesNothing (Some (Demo records have)) = ⊤

-- what is said of the command that the words are; there is none exactly at Usage
abbrev pub OfCommand : Option Command → (List ℕ → Option (List ℕ)) → Ends → Status → Type 0
OfCommand None file e status = (status ≡ Usage) × IsUntouched e
OfCommand (Some (Seq name)) file e status = OfFile (Runs SeqRuns) (file name) e status
OfCommand (Some (Rounds name have)) file e status = OfFile (By have (Runs RunsMain)) (file name) e status
OfCommand (Some (Check name have)) file e status = OfFile (ByGiven have Checks) (file name) e status
OfCommand (Some (Demo records have)) file e status = Starved e status ⊎ WithNeed DEMO_NEED have (Demonstrates records) e status

-- no file was asked for but this, and that at most once
abbrev pub IsAsked : List ℕ → List (List ℕ) → List (List ℕ) → Type 0
IsAsked name before now = (now ≡ before) ⊎ (now ≡ before ++ name ∷ [])

-- no file was asked for but that of the command
abbrev pub AsksFor : Option Command → List (List ℕ) → List (List ℕ) → Type 0
AsksFor None before now = now ≡ before
AsksFor (Some (Seq name)) before now = IsAsked name before now
AsksFor (Some (Rounds name have)) before now = IsAsked name before now
AsksFor (Some (Check name have)) before now = IsAsked name before now
AsksFor (Some (Demo records have)) before now = now ≡ before

-- a file that is told, is not too long and reads as a script of which this holds
abbrev pub HasScript : (Script → Type 0) → Option (List ℕ) → Type 0
HasScript P file = (text : List ℕ) × (s : Script) × (file ≡ Some text) × (length text ≤ MOST_SCRIPT_BYTES) × ReadsAs text s × P s

-- there are as many processes as it needs, where a number was given, which isn't 0
abbrev pub IsServed : ℕ → Script → Type 0
IsServed zero s = ⊤
IsServed (suc k) s = need s ≤ suc k

-- the command is on a file with a script, or is the demo, and has the processes that it asks for
abbrev pub IsRunnable : Option Command → (List ℕ → Option (List ℕ)) → Type 0
IsRunnable None file = ⊥
IsRunnable (Some (Seq name)) file = HasScript (λ s. ⊤) (file name)
IsRunnable (Some (Rounds name have)) file = HasScript (λ s. need s ≤ have) (file name)
IsRunnable (Some (Check name have)) file = HasScript (IsServed have) (file name)
IsRunnable (Some (Demo records have)) file = DEMO_NEED ≤ have
