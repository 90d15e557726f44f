-- Lines, the records that they are, and the stream that bytes read as.
use Rattle.std.specs.Prelude.{ℕ, ℤ, pos, neg_ℤ, ◌≡◌, ◌≢◌, ◌+◌, ◌^◌, ◌<◌, Bool, true, false, ◌&&◌, ◌||◌, ◌==◌, nat_lt, nat_le, if◌then◌else◌, List, [], ◌∷◌, ◌++◌, length, filter, Option, Some, None, Ok, Err, ⊤}
use Rattle.std.specs.List.{slice_split}
use Rattle.std.specs.Str.{all_ascii_digits}
use Rattle.std.specs.Str.Lines.{strip_carriage_return}
use Rattle.std.specs.Str.Parse.{digits_value}
use Rattle.msl_base.specs.declared.limits.TheConstants.{MOST_LINE_BYTES, MOST_LINES, MOST_NUMBERS}
use Rattle.msl_base.specs.declared.fault.Fault.TheVariants.{BadRecord, LongLine, WideRecord, ManyLines}
use Rattle.msl_base.specs.Streams.{Outcome, Ending, done, failed, unread, Stream, stream, before}

-- ---- lines

-- a line: its bytes up to LF, and whether an LF ends it
pub record Row : Type 0 where
  pub bytes : List ℕ
  pub ended : Bool

abbrev pub row : List ℕ → Bool → Row
row bytes ended = record { bytes = bytes; ended = ended }

-- a line as it stands in the input, its LF too
abbrev pub whole : Row → List ℕ
whole line = line.bytes ++ (if line.ended then 10 ∷ [] else [])

-- one more byte at the front of the first line
abbrev pub with_byte : ℕ → List Row → List Row
with_byte b [] = row (b ∷ []) false ∷ []
with_byte b (line ∷ lines) = row (b ∷ line.bytes) line.ended ∷ lines

-- the lines of bytes: cut behind each LF; what stands behind the last LF is a line where there is anything
abbrev pub rows_of : List ℕ → List Row
rows_of [] = []
rows_of (b ∷ bs) = if b == 10 then row [] true ∷ rows_of bs else with_byte b (rows_of bs)

-- no byte is LF
abbrev pub HasNoLf : List ℕ → Type 0
HasNoLf [] = ⊤
HasNoLf (b ∷ bs) = (b ≢ 10) × HasNoLf bs

-- the first line of bytes, and the bytes behind it; a line that no LF ends is the last, and has a byte
pub record FirstRow (bytes : List ℕ) (line : Row) (behind : List ℕ) : Type 0 where
  pub no_lf : HasNoLf line.bytes
  pub split : bytes ≡ whole line ++ behind
  pub last : line.ended ≡ false → (behind ≡ []) × (0 < length line.bytes)

-- ---- what one line says

-- spaces and tabs stand between words
abbrev pub is_blank : ℕ → Bool
is_blank b = b == 32 || b == 9

abbrev pub is_word : List ℕ → Bool
is_word part = nat_lt 0 (length part)

-- the words of a text
abbrev pub words : List ℕ → List (List ℕ)
words text = filter is_word (slice_split is_blank text)

-- one or more decimal digits
abbrev pub is_numeral : List ℕ → Bool
is_numeral ds = nat_lt 0 (length ds) && all_ascii_digits ds

abbrev pub unsigned_of : List ℕ → Option ℤ
unsigned_of ds = if is_numeral ds && nat_lt (digits_value 10 ds) (2 ^ 63) then Some (pos (digits_value 10 ds)) else None

abbrev pub negative_of : List ℕ → Option ℤ
negative_of ds = if is_numeral ds && nat_le (digits_value 10 ds) (2 ^ 63) then Some (neg_ℤ (pos (digits_value 10 ds))) else None

-- the number that a word spells, in 64 bits: '+', '-' or neither, then the digits
abbrev pub number_of : List ℕ → Option ℤ
number_of [] = None
number_of (c ∷ cs) = if c == 45 then negative_of cs else if c == 43 then unsigned_of cs else unsigned_of (c ∷ cs)

abbrev pub in_front : Option ℤ → Option (List ℤ) → Option (List ℤ)
in_front (Some z) (Some zs) = Some (z ∷ zs)
in_front (Some z) None = None
in_front None numbers = None

-- the numbers that words spell, where each spells one
abbrev pub numbers_of : List (List ℕ) → Option (List ℤ)
numbers_of [] = Some []
numbers_of (w ∷ ws) = in_front (number_of w) (numbers_of ws)

-- the most bytes of a line before its LF or the end, and the most numbers of a record
abbrev pub most_bytes : ℕ
most_bytes = MOST_LINE_BYTES

abbrev pub most_numbers : ℕ
most_numbers = MOST_NUMBERS

-- the record of line number n, from the numbers that its words spell
abbrev pub record_of : ℕ → Option (List ℤ) → Outcome
record_of n None = Err (BadRecord n)
record_of n (Some zs) = if nat_lt most_numbers (length zs) then Err (WideRecord n) else Ok zs

-- the record that line number n is, or why it is refused; its text is its bytes without one CR at their end
abbrev pub reading : ℕ → Row → Outcome
reading n line =
    if nat_lt most_bytes (length line.bytes) then Err (LongLine n)
    else record_of n (numbers_of (words (strip_carriage_return line.bytes)))

-- how the stream of a part ends in a line that may go on: it is refused where it is too long already
abbrev pub open_line : ℕ → List ℕ → Ending
open_line n bytes = if nat_lt most_bytes (length bytes) then failed (LongLine n) else unread

-- ---- streams

-- what a line gives, and what comes of the lines behind it
abbrev pub led_by : Outcome → Stream → Stream
led_by (Ok r) lines = before (r ∷ []) lines
led_by (Err f) lines = stream [] (failed f)

-- the stream of lines, of which the first has number n and none may have a number above the limit
abbrev pub stream_of : ℕ → ℕ → List Row → Stream
stream_of limit n [] = stream [] done
stream_of limit n (line ∷ lines) =
    if nat_lt limit n then stream [] (failed ManyLines) else led_by (reading n line) (stream_of limit (n + 1) lines)

-- the same where more bytes may follow, so that a line that no LF ends may go on
abbrev pub part_of : ℕ → ℕ → List Row → Stream
part_of limit n [] = stream [] unread
part_of limit n (line ∷ lines) =
    if nat_lt limit n then stream [] (failed ManyLines)
    else if line.ended then led_by (reading n line) (part_of limit (n + 1) lines)
    else stream [] (open_line n line.bytes)

abbrev pub most_lines : ℕ
most_lines = MOST_LINES

-- the stream that bytes read as
abbrev pub reads : List ℕ → Stream
reads bytes = stream_of most_lines 1 (rows_of bytes)

-- what bytes read as that are the beginning of more
abbrev pub part : List ℕ → Stream
part bytes = part_of most_lines 1 (rows_of bytes)
