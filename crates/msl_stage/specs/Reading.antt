-- How far the reading of records has come, and how it ends.
use Rattle.std.specs.Prelude.{ℕ, ◌≡◌, ◌+◌, ◌⊎◌, List, [], ◌++◌, Option, Some, None, Result, Ok, Err}
use Rattle.msl_base.specs.declared.fault.Fault.TheVariants as faults
use Rattle.msl_base.specs.declared.fault.End.{End}
use Rattle.msl_base.specs.declared.fault.End.TheVariants.{Done, Fault, Read, Write, Memory, Stopped}
use Rattle.msl_base.specs.declared.rec.Rec.{Rec}
use Rattle.msl_base.specs.Streams.{Record, Stream, stream, before, done, failed, unread}
use Rattle.msl_io.specs.Causes.{Rose}
use Rattle.msl_io.specs.Lines.{rows_of, stream_of, part_of, reads, part, most_lines}
use Rattle.msl_io.specs.Known.{Told}
use Rattle.msl_io.specs.Reader.{Reader, Before, After, after_of, Counts, GivesRecord, IsCutOff, IsEndOf, IsRefused}
use Rattle.msl_io.specs.declared.lines.Line.{Line}
use Rattle.msl_io.specs.declared.lines.Line.TheVariants as line
use Rattle.msl_io.specs.declared.lines.Stop.{Stop}
use Rattle.msl_io.specs.declared.lines.Stop.TheVariants as stop
use Rattle.msl_stage.specs.Endings.{Ends, Grew, IsEnding, Ran}
use Rattle.msl_stage.specs.Feeding.{Finished}

-- ---- one answer of the reader

-- the record to work on, none at the end of the whole input, or why there is none
abbrev pub next_of : Line → Result (Option Rec) End
next_of (line.Rec r) = Ok (Some r)
next_of line.End = Ok None
next_of (line.BadRecord n) = Err (Fault (faults.BadRecord n))
next_of (line.LongLine n) = Err (Fault (faults.LongLine n))
next_of (line.WideRecord n) = Err (Fault (faults.WideRecord n))
next_of line.ManyLines = Err (Fault faults.ManyLines)
next_of line.ReadFault = Err Read
next_of line.NoMemory = Err Memory

-- nothing is there before
abbrev pub IsAtEnd : Before → After → Type 0
IsAtEnd b a = (b.bytes ≡ []) × (a.left ≡ [])

-- no record comes of what is there before
abbrev pub IsStopped : Before → After → End → Type 0
IsStopped b a (Fault f) = IsRefused b a f
IsStopped b a Read = IsCutOff b a
IsStopped b a Memory = IsEndOf a.left b.bytes
IsStopped b a Write = ⊥
IsStopped b a Done = ⊥
IsStopped b a Stopped = ⊥

-- a reader and its source before an answer
abbrev pub from : Reader → List ℕ → Before
from r left = record { limit = most_lines; number = r.read + 1; bytes = r.rest ++ left }

-- What was taken by a reader that goes on, or has given a last line that no LF ends: the next record, nothing at the end,
-- or why the input stops.
abbrev pub Takes : Option Stop → Option (List ℕ) → Option (List ℕ) → Reader → Reader → Result (Option Rec) End → Type 0
Takes None left left' old new (Ok (Some rec)) = Told left left' (λ l l'. GivesRecord (from old l) (after_of new l') rec.numbers) × Counts old new (line.Rec rec)
Takes None left left' old new (Ok None) = Told left left' (λ l l'. IsAtEnd (from old l) (after_of new l'))
Takes None left left' old new (Err e) = Told left left' (λ l l'. IsStopped (from old l) (after_of new l') e)
Takes (Some s) left left' old new (Ok (Some rec)) = ⊥
Takes (Some s) left left' old new (Ok None) = left' ≡ left
Takes (Some s) left left' old new (Err e) = ⊥

-- the source's count rose where it failed, and is as before where it did not
abbrev pub TakeCause : Result (Option Rec) End → ℕ → ℕ → Type 0
TakeCause (Ok o) before now = now ≡ before
TakeCause (Err (Fault f)) before now = now ≡ before
TakeCause (Err Read) before now = Rose before now
TakeCause (Err Memory) before now = now ≡ before
TakeCause (Err Done) before now = ⊥
TakeCause (Err Write) before now = ⊥
TakeCause (Err Stopped) before now = ⊥

-- a reader that has read nothing
abbrev pub IsFresh : Reader → Type 0
IsFresh r = r ≡ record { rest = []; read = 0; lines = most_lines; stopped = None }

-- ---- the records so far

-- the bytes are whole lines that read as these records, whatever follows
pub record AreLines (consumed : List ℕ) (records : List Record) (next : ℕ) : Type 0 where
  pub whole : (tail : List ℕ) → stream_of most_lines 1 (rows_of (consumed ++ tail)) ≡ before records (stream_of most_lines next (rows_of tail))
  pub front : (tail : List ℕ) → part_of most_lines 1 (rows_of (consumed ++ tail)) ≡ before records (part_of most_lines next (rows_of tail))

-- what was consumed of the input has these records, and these bytes are left, whose first line has the next number
pub record ReadsOn (input bytes : List ℕ) (records : List Record) (next : ℕ) : Type 0 where
  pub consumed : List ℕ
  pub split : input ≡ consumed ++ bytes
  pub lines : AreLines consumed records next

-- the whole input was consumed
abbrev pub IsOver : List ℕ → List ℕ → List Record → Type 0
IsOver input left records = (reads input ≡ stream records done) × (left ≡ [])

-- The reader goes on, or it has given a last line that no LF ends. It and the source have these bytes.
abbrev pub HasRead : List ℕ → List ℕ → List ℕ → List Record → ℕ → Option Stop → Type 0
HasRead input bytes left records next None = ReadsOn input bytes records next
HasRead input bytes left records next (Some stop.End) = IsOver input left records
HasRead input bytes left records next (Some (stop.BadRecord n)) = ⊥
HasRead input bytes left records next (Some (stop.LongLine n)) = ⊥
HasRead input bytes left records next (Some (stop.WideRecord n)) = ⊥
HasRead input bytes left records next (Some stop.ManyLines) = ⊥
HasRead input bytes left records next (Some stop.ReadFault) = ⊥
HasRead input bytes left records next (Some stop.NoMemory) = ⊥

-- the input begins with these records
abbrev pub BeginsWith : List ℕ → List Record → Type 0
BeginsWith input records = (S : Stream) × (reads input ≡ before records S)

-- the input has these records, and stops so
abbrev pub StopsSo : List ℕ → List ℕ → List Record → End → Type 0
StopsSo input left records (Fault f) = reads input ≡ stream records (failed f)
StopsSo input left records Read = BeginsWith input records × ((taken : List ℕ) × (input ≡ taken ++ left) × (part taken ≡ stream records unread))
StopsSo input left records Memory = BeginsWith input records
StopsSo input left records Done = ⊥
StopsSo input left records Write = ⊥
StopsSo input left records Stopped = ⊥

-- ---- the run

-- What a run left behind before its sink is flushed, which may still fail.
pub record StreamedTold (means : Stream → Stream → Type 0) (e : Ends) (end : End) : Type 0 where
  pub ending : IsEnding end
  pub grew : Grew e.held e.held_now (λ written. Unit {0})
  pub ran : Told e.left e.left_now (λ input rest. IsEndOf rest input × Grew e.held e.held_now (λ written. Ran means input rest written end × Ran means input rest written Write))

-- what came of the end of the input of a line
abbrev pub ClosedWith : (Stream → Stream → Type 0) → End → Option (List ℕ) → Option (List ℕ) → Type 0
ClosedWith R Done held now = Finished {A = Unit {0}} R (Ok (tt {0})) held now
ClosedWith R (Fault f) held now = Finished {A = Unit {0}} R (Err (Fault f)) held now
ClosedWith R Write held now = Finished {A = Unit {0}} R (Err Write) held now
ClosedWith R Memory held now = Finished {A = Unit {0}} R (Err Memory) held now
ClosedWith R Read held now = ⊥
ClosedWith R Stopped held now = ⊥

abbrev pub CloseCause : End → ℕ → ℕ → Type 0
CloseCause Write before now = Rose before now
CloseCause Done before now = now ≡ before
CloseCause (Fault f) before now = now ≡ before
CloseCause Memory before now = now ≡ before
CloseCause Read before now = now ≡ before
CloseCause Stopped before now = now ≡ before

-- a flush leaves the end, or gives a fault of writing
abbrev pub Flushed : End → End → ℕ → ℕ → Type 0
Flushed e result before now = ((result ≡ e) × (now ≡ before)) ⊎ ((result ≡ Write) × Rose before now)
