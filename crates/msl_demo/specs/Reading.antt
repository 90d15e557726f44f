-- How far the reading of a text of records has come.
use Rattle.std.specs.Prelude.{ℕ, ◌≡◌, ◌+◌, ◌≤◌, List, [], ◌∷◌, ◌++◌, Option, Some, None, Result, Ok, Err}
use Rattle.msl_base.specs.declared.rec.Rec.{Rec}
use Rattle.msl_base.specs.declared.name.NoMemory.{NoMemory}
use Rattle.msl_base.specs.Streams.{Record, stream, done}
use Rattle.msl_io.specs.Lines.{reads, most_lines}
use Rattle.msl_io.specs.Reader.{Reader, MayGoOn}
use Rattle.msl_stage.specs.Reading.{BeginsWith, HasRead}

-- these records were read of the text, and the source has these bytes left
pub record HasCome (text : List ℕ) (front : List Record) (reader : Reader) (left : List ℕ) : Type 0 where
  pub read : HasRead text (reader.rest ++ left) left front (reader.read + 1) reader.stopped
  pub going : MayGoOn reader.stopped
  pub lines : reader.lines ≡ most_lines
  pub within : reader.read ≤ reader.lines

-- a text of which all can be read
pub record IsAt (reader : Reader) (left : List ℕ) : Type 0 where
  pub text : List ℕ
  pub front : List Record
  pub come : HasCome text front reader left
  pub whole : (reads text).ending ≡ done

-- what came next behind these records: one more record, or the end
abbrev pub Comes : List ℕ → List Record → Reader → Reader → List ℕ → Result (Option Rec) NoMemory → Type 0
Comes text front old new left (Ok (Some rec)) =
    HasCome text (front ++ rec.numbers ∷ []) new left × BeginsWith text (front ++ rec.numbers ∷ []) × (new.read ≡ old.read + 1)
Comes text front old new left (Ok None) = reads text ≡ stream front done
Comes text front old new left (Err e) = Unit {0}
