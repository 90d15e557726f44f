-- The text of records, read.
use Rattle.std.specs.Prelude.{ℤ, ◌≡◌, ◌≤◌, List, length, All, FitsSigned}
use Rattle.std.specs.Int.{w64}
use Rattle.msl_base.specs.Streams.{stream, done, unread}
use Rattle.msl_io.specs.Lines.{reads, part, most_lines, most_numbers}
use Rattle.msl_io.specs.Text.{text}

-- a record that a line can be: it has few enough numbers, each of 64 bits
pub record IsReadable (numbers : List ℤ) : Type 0 where
  pub few : length numbers ≤ most_numbers
  pub fit : All (FitsSigned w64) numbers

-- records that an input can be
pub record AreReadable (records : List (List ℤ)) : Type 0 where
  pub few : length records ≤ most_lines
  pub each : All IsReadable records

-- the text of records reads as these records
abbrev pub TextReadsBack : Type 0
TextReadsBack = (records : List (List ℤ)) → AreReadable records → reads (text records) ≡ stream records done

-- and as their beginning, where more may follow
abbrev pub TextBeginsSo : Type 0
TextBeginsSo = (records : List (List ℤ)) → AreReadable records → part (text records) ≡ stream records unread

-- so records with one text are the same
abbrev pub TextIsOfOne : Type 0
TextIsOfOne = (X Y : List (List ℤ)) → AreReadable X → AreReadable Y → text X ≡ text Y → X ≡ Y
