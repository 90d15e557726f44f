-- What contracts see of the reader of lines, and what one answer of it says.
use Rattle.std.specs.Prelude.{ℕ, ◌≡◌, ◌+◌, ◌≤◌, if◌then◌else◌, List, [], ◌++◌, length, Option, Some, None, Ok, ⊤}
use Rattle.msl_base.specs.declared.fault.Fault.{Fault}
use Rattle.msl_base.specs.declared.fault.Fault.TheVariants as faults
use Rattle.msl_base.specs.Streams.{Record, failed, unread, stream}
use Rattle.msl_io.specs.declared.chunk.TheConstants.{CHUNK_BYTES}
use Rattle.msl_io.specs.declared.lines.Line.{Line}
use Rattle.msl_io.specs.declared.lines.Line.TheVariants.{Rec, End, BadRecord, LongLine, WideRecord, ManyLines, ReadFault, NoMemory}
use Rattle.msl_io.specs.declared.lines.Stop.{Stop}
use Rattle.msl_io.specs.declared.lines.Stop.TheVariants as stop
use Rattle.msl_outside.specs.Known.{Told}
use Rattle.msl_outside.specs.Causes.{Rose}
use Rattle.msl_io.specs.Lines.{Row, FirstRow, HasNoLf, rows_of, reading, stream_of, part_of, most_bytes}

-- the bytes that it has taken and not used, how many lines it has read, how many it will read at most, and why it
-- reads no more
pub record Reader : Type 0 where
  pub rest : List ℕ
  pub read : ℕ
  pub lines : ℕ
  pub stopped : Option Stop

-- why the reader reads no more, if an answer says so
abbrev pub stop_of : Line → Option Stop
stop_of (Rec r) = None
stop_of End = Some stop.End
stop_of (BadRecord n) = Some (stop.BadRecord n)
stop_of (LongLine n) = Some (stop.LongLine n)
stop_of (WideRecord n) = Some (stop.WideRecord n)
stop_of ManyLines = Some stop.ManyLines
stop_of ReadFault = Some stop.ReadFault
stop_of NoMemory = Some stop.NoMemory

-- ---- one answer

-- before an answer: the greatest number of a line, the number of the next one, and the bytes that the reader holds and
-- the source has left
pub record Before : Type 0 where
  pub limit : ℕ
  pub number : ℕ
  pub bytes : List ℕ

-- afterwards: the bytes that both have, those of the source alone, and why the reader reads no more
pub record After : Type 0 where
  pub bytes : List ℕ
  pub left : List ℕ
  pub stopped : Option Stop

-- The record of the first line, which is taken off. Behind a line that no LF ends the reader reads no more.
pub record GivesRecord (b : Before) (a : After) (numbers : Record) : Type 0 where
  pub line : Row
  pub first : FirstRow b.bytes line a.bytes
  pub within : b.number ≤ b.limit
  pub reads_as : reading b.number line ≡ Ok numbers
  pub stops : a.stopped ≡ (if line.ended then None else Some stop.End)

-- what is left is an end of what was there
abbrev pub IsEndOf : List ℕ → List ℕ → Type 0
IsEndOf left bytes = (taken : List ℕ) × (bytes ≡ taken ++ left)

-- the first line is refused
pub record IsRefused (b : Before) (a : After) (f : Fault) : Type 0 where
  pub refused : stream_of b.limit b.number (rows_of b.bytes) ≡ stream [] (failed f)
  pub taken : List ℕ
  pub split : b.bytes ≡ taken ++ a.left

-- it is refused as too long, and at most what it may have and one chunk were taken
pub record IsLong (b : Before) (a : After) (n : ℕ) : Type 0 where
  pub is : IsRefused b a (faults.LongLine n)
  pub near : length is.taken ≤ most_bytes + CHUNK_BYTES

-- bytes were taken that have no whole line, and nothing in them is refused so far
pub record IsCutOff (b : Before) (a : After) : Type 0 where
  pub taken : List ℕ
  pub split : b.bytes ≡ taken ++ a.left
  pub no_lf : HasNoLf taken
  pub unrefused : part_of b.limit b.number (rows_of taken) ≡ stream [] unread

-- what each answer says
abbrev pub Reads : Before → After → Line → Type 0
Reads b a (Rec r) = GivesRecord b a r.numbers
Reads b a End = (b.bytes ≡ []) × (a.left ≡ [])
Reads b a (BadRecord n) = IsRefused b a (faults.BadRecord n)
Reads b a (LongLine n) = IsLong b a n
Reads b a (WideRecord n) = IsRefused b a (faults.WideRecord n)
Reads b a ManyLines = IsRefused b a faults.ManyLines
Reads b a ReadFault = IsCutOff b a
Reads b a NoMemory = IsEndOf a.left b.bytes

-- a reader, and what its source has left
abbrev pub before_of : Reader → List ℕ → Before
before_of r left = record { limit = r.lines; number = r.read + 1; bytes = r.rest ++ left }

abbrev pub after_of : Reader → List ℕ → After
after_of r left = record { bytes = r.rest ++ left; left = left; stopped = r.stopped }

-- an answer, where the source tells its bytes
abbrev pub ReadsLine : Option (List ℕ) → Option (List ℕ) → Reader → Reader → Line → Type 0
ReadsLine left left' old new line = Told left left' (λ l l'. Reads (before_of old l) (after_of new l') line)

-- the reader goes on, or has come to the end
abbrev pub MayGoOn : Option Stop → Type 0
MayGoOn None = ⊤
MayGoOn (Some stop.End) = ⊤
MayGoOn (Some _) = ⊥

-- one more line was read, or the answer says why no more is
abbrev pub Counts : Reader → Reader → Line → Type 0
Counts old new (Rec r) = (new.read ≡ old.read + 1) × (new.read ≤ new.lines) × MayGoOn new.stopped
Counts old new End = new.stopped ≡ Some stop.End
Counts old new (BadRecord n) = new.stopped ≡ Some (stop.BadRecord n)
Counts old new (LongLine n) = new.stopped ≡ Some (stop.LongLine n)
Counts old new (WideRecord n) = new.stopped ≡ Some (stop.WideRecord n)
Counts old new ManyLines = new.stopped ≡ Some stop.ManyLines
Counts old new ReadFault = new.stopped ≡ Some stop.ReadFault
Counts old new NoMemory = new.stopped ≡ Some stop.NoMemory

-- the count of the source rose at a fault, and is as before at any other answer
abbrev pub ReadCause : Line → ℕ → ℕ → Type 0
ReadCause (Rec r) before now = now ≡ before
ReadCause End before now = now ≡ before
ReadCause (BadRecord n) before now = now ≡ before
ReadCause (LongLine n) before now = now ≡ before
ReadCause (WideRecord n) before now = now ≡ before
ReadCause ManyLines before now = now ≡ before
ReadCause ReadFault before now = Rose before now
ReadCause NoMemory before now = now ≡ before
