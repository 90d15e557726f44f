-- What a run of a line leaves behind: the one table of its endings.
--     Ran means input left written end
-- says it of a run that found `input` at its source and left `left` there, where `written` is what its sink grew by;
-- `means` relates a stream to each stream that may be made of it.
use Rattle.std.specs.Prelude.{ℕ, ◌≡◌, ◌≤◌, List, [], ◌++◌, Option, ⊤}
use Rattle.std.specs.Io.KnownBytes.{Appends}
use Rattle.msl_base.specs.Streams.{Record, Ending, done, failed, unread, Stream, stream}
use Rattle.msl_base.specs.declared.fault.End.{End}
use Rattle.msl_base.specs.declared.fault.End.TheVariants.{Done, Fault, Read, Write, Memory, Stopped}
use Rattle.msl_io.specs.Causes.{Rose}
use Rattle.msl_io.specs.Lines.{reads, part}
use Rattle.msl_io.specs.Text.{text}
use Rattle.msl_io.specs.Known.{Told}
use Rattle.msl_io.specs.Reader.{IsEndOf}

abbrev pub Ran : (Stream → Stream → Type 0) → List ℕ → List ℕ → List ℕ → End → Type 0
-- the text of a whole stream that may be made of all records was written, and nothing is left
Ran means input left written Done =
    (records : List Record) × means (reads input) (stream records done) × (written ≡ text records) × (left ≡ [])
-- the text of the records before the fault was written; how much more was read is open
Ran means input left written (Fault fault) =
    (records : List Record) × means (reads input) (stream records (failed fault)) × (written ≡ text records)
-- the text of what may be made of the whole lines among the bytes that were taken
Ran means input left written Read =
    (records : List Record) × (taken : List ℕ) × (input ≡ taken ++ left) × means (part taken) (stream records unread) × (written ≡ text records)
-- a beginning of the text of what may be made
Ran means input left written Write =
    (records : List Record) × (ending : Ending) × (rest : List ℕ) × means (reads input) (stream records ending) × (text records ≡ written ++ rest)
-- the text of the first of the records that may be made, maybe of none
Ran means input left written Memory =
    (records : List Record) × (others : List Record) × (ending : Ending) × means (reads input) (stream (records ++ others) ending) × (written ≡ text records)
-- no run ends so
Ran means input left written Stopped = ⊥

-- what a source has left and a sink holds, where they tell it, before and afterwards
pub record Ends : Type 0 where
  pub left : Option (List ℕ)
  pub left_now : Option (List ℕ)
  pub held : Option (List ℕ)
  pub held_now : Option (List ℕ)

abbrev pub ends : Option (List ℕ) → Option (List ℕ) → Option (List ℕ) → Option (List ℕ) → Ends
ends left left_now held held_now = record { left = left; left_now = left_now; held = held; held_now = held_now }

-- A sink grew by some bytes, of which this holds; where it doesn't tell what it holds, they are some that do.
abbrev pub Grew : Option (List ℕ) → Option (List ℕ) → (List ℕ → Type 0) → Type 0
Grew held held_now P = (written : List ℕ) × Appends held held_now written × P written

abbrev pub IsEnding : End → Type 0
IsEnding Done = ⊤
IsEnding (Fault f) = ⊤
IsEnding Read = ⊤
IsEnding Write = ⊤
IsEnding Memory = ⊤
IsEnding Stopped = ⊥

-- The sink only grew. Where the source tells its bytes, what is left is an end of what was there, and this is what the
-- run left behind.
pub record RanTold (means : Stream → Stream → Type 0) (e : Ends) (end : End) : Type 0 where
  pub ending : IsEnding end
  pub grew : Grew e.held e.held_now (λ written. Unit {0})
  pub ran : Told e.left e.left_now (λ input rest. IsEndOf rest input × Grew e.held e.held_now (λ written. Ran means input rest written end))

-- which counts of faults rose: the source's at Read, the sink's at Write, and none at any other end; a sink that fails
-- behind a fault of the source hides it
abbrev pub Causes : End → ℕ → ℕ → ℕ → ℕ → Type 0
Causes Done source source' sink sink' = (source' ≡ source) × (sink' ≡ sink)
Causes (Fault f) source source' sink sink' = (source' ≡ source) × (sink' ≡ sink)
Causes Read source source' sink sink' = Rose source source' × (sink' ≡ sink)
Causes Write source source' sink sink' = (source ≤ source') × Rose sink sink'
Causes Memory source source' sink sink' = (source' ≡ source) × (sink' ≡ sink)
Causes Stopped source source' sink sink' = ⊥

-- all that was taken was handed on, unless writing failed or memory ran out
abbrev pub IsHandedOn : End → Option (List ℕ) → Option (List ℕ) → Type 0
IsHandedOn Done flushed held = flushed ≡ held
IsHandedOn (Fault f) flushed held = flushed ≡ held
IsHandedOn Read flushed held = flushed ≡ held
IsHandedOn Write flushed held = ⊤
IsHandedOn Memory flushed held = ⊤
IsHandedOn Stopped flushed held = ⊤
