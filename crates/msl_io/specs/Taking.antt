-- How a line is taken piece by piece out of a chunk and the source behind it.
use Rattle.std.specs.Prelude.{ℕ, ℤ, ◌≡◌, ◌≤◌, ◌<◌, ◌+◌, ◌==◌, ◌||◌, Bool, true, false, min, if◌then◌else◌, List, [], ◌∷◌, ◌++◌, length, take, slice_index, All, Option, Some, None, Ok, Err, ⊤, ◌⊎◌}
use Rattle.std.specs.Option.{option_or}
use Rattle.std.specs.Char.{is_ascii_digit}
use Rattle.std.specs.Str.Lines.{strip_carriage_return}
use Rattle.std.specs.Str.Parse.{digits_value, AllDigits}
use Rattle.msl_base.specs.declared.fault.Fault.TheVariants as faults
use Rattle.msl_base.specs.Streams.{Outcome}
use Rattle.msl_io.specs.declared.chunk.Filled.{Filled}
use Rattle.msl_io.specs.declared.chunk.Filled.TheVariants.{Bytes, End, Fault}
use Rattle.msl_io.specs.declared.lines.Line.{Line}
use Rattle.msl_io.specs.declared.lines.Line.TheVariants as line
use Rattle.msl_io.specs.declared.numeral.Word.{Word}
use Rattle.msl_io.specs.declared.text.Part.{Part}
use Rattle.msl_io.specs.declared.text.Part.TheVariants as part
use Rattle.msl_io.specs.declared.text.Text.{Text}
use Rattle.msl_io.specs.declared.words.Words.{Words}
use Rattle.msl_io.specs.declared.lines.Stop.{Stop}
use Rattle.msl_io.specs.declared.lines.Stop.TheVariants as stop
use Rattle.msl_outside.specs.Causes.{Rose}
use Rattle.msl_io.specs.Reader.{Reader, stop_of}
use Rattle.msl_io.specs.Lines.{HasNoLf, is_blank, words, numbers_of, most_bytes, most_numbers}

-- ---- words

-- the least magnitude that no number of 64 bits has
abbrev pub too_great : ℕ
too_great = 9223372036854775809

abbrev pub is_sign : ℕ → Bool
is_sign b = b == 45 || b == 43

abbrev pub IsSign : Bool → List ℕ → Type 0
IsSign negative [] = negative ≡ false
IsSign negative (c ∷ cs) = (cs ≡ []) × (((c ≡ 45) × (negative ≡ true)) ⊎ ((c ≡ 43) × (negative ≡ false)))

-- a word that is read so far: a sign or none, and digits
pub record IsWord (word : Word) (bytes : List ℕ) : Type 0 where
  pub sign : List ℕ
  pub digits : List ℕ
  pub split : bytes ≡ sign ++ digits
  pub signed : IsSign word.negative sign
  pub decimal : AllDigits 10 digits
  pub unopened : word.begun ≡ false → bytes ≡ []
  pub opened : word.begun ≡ true → 0 < length bytes
  pub unspelt : word.digits ≡ false → digits ≡ []
  pub spelt : word.digits ≡ true → 0 < length digits
  pub value : word.magnitude ≡ min (digits_value 10 digits) too_great

-- the digits at the front of a text are n
pub record IsDigitsFront (text : List ℕ) (n : ℕ) : Type 0 where
  pub within : n ≤ length text
  pub digits : AllDigits 10 (take n text)
  pub behind : n < length text → is_ascii_digit (slice_index text n) ≡ false

-- no text that begins so is a record's
abbrev pub IsSpoilt : List ℕ → Type 0
IsSpoilt text = (more : List ℕ) → numbers_of (words (text ++ more)) ≡ None

-- the numbers of the whole words, and how many they are, up to one more than there may be
pub record Holds (numbers : List ℤ) (w : Words) : Type 0 where
  pub count : w.count ≡ min (length numbers) (most_numbers + 1)
  pub kept : w.count ≤ most_numbers → w.numbers.numbers ≡ numbers

-- a text whose last word may go on
pub record IsOpen (text : List ℕ) (w : Words) (word : Word) : Type 0 where
  pub front : List ℕ
  pub last : List ℕ
  pub numbers : List ℤ
  pub split : text ≡ front ++ last
  pub cut : (more : List ℕ) → words (front ++ more) ≡ words front ++ words more
  pub unbroken : All (λ b. is_blank b ≡ false) last
  pub spelt : numbers_of (words front) ≡ Some numbers
  pub holds : Holds numbers w
  pub is_word : IsWord word last

-- a text that was scanned, of which more may come
pub record Scanned (text : List ℕ) (w : Words) (word : Word) : Type 0 where
  pub spoilt : w.bad ≡ true → IsSpoilt text
  pub good : w.bad ≡ false → IsOpen text w word

abbrev pub HasNumbers : List ℕ → Words → Type 0
HasNumbers text w = (numbers : List ℤ) × (numbers_of (words text) ≡ Some numbers) × Holds numbers w

-- a text whose last word is whole
pub record Closed (text : List ℕ) (w : Words) : Type 0 where
  pub spoilt : w.bad ≡ true → numbers_of (words text) ≡ None
  pub good : w.bad ≡ false → HasNumbers text w

-- ---- lines

-- the bytes of a line so far: its text, and maybe a CR behind it, which belongs to the text only where more comes
pub record HasTaken (taken : List ℕ) (t : Text) : Type 0 where
  pub text : List ℕ
  pub split : taken ≡ text ++ (if t.cr then 13 ∷ [] else [])
  pub stripped : strip_carriage_return taken ≡ text
  pub scanned : Scanned text t.words t.word
  pub len : t.len ≡ length taken
  pub no_lf : HasNoLf taken

-- n bytes stand before the first LF, or all the bytes
pub record IsLineEnd (bytes : List ℕ) (n : ℕ) : Type 0 where
  pub within : n ≤ length bytes
  pub no_lf : HasNoLf (take n bytes)
  pub lf : n < length bytes → slice_index bytes n ≡ 10

-- what a line's bytes gave
abbrev pub Gives : Outcome → Line → Type 0
Gives outcome (line.Rec r) = outcome ≡ Ok r.numbers
Gives outcome (line.BadRecord n) = outcome ≡ Err (faults.BadRecord n)
Gives outcome (line.WideRecord n) = outcome ≡ Err (faults.WideRecord n)
Gives outcome line.NoMemory = ⊤
Gives outcome other = ⊥

abbrev pub IsOfText : Line → Type 0
IsOfText (line.Rec r) = ⊤
IsOfText (line.BadRecord n) = ⊤
IsOfText (line.WideRecord n) = ⊤
IsOfText line.NoMemory = ⊤
IsOfText other = ⊥

-- what is taken of a line out of a chunk, where `taken` was taken before
abbrev pub TakesPart : Part → List ℕ → List ℕ → Text → List ℕ → Type 0
TakesPart part.More taken chunk t rest = HasTaken (taken ++ chunk) t × (rest ≡ [])
TakesPart part.Ended taken chunk t rest = (bytes : List ℕ) × (chunk ≡ bytes ++ (10 ∷ rest)) × HasTaken (taken ++ bytes) t
TakesPart part.Long taken chunk t rest =
    (bytes : List ℕ) × (behind : List ℕ) × (chunk ≡ bytes ++ behind) × HasNoLf bytes × (most_bytes < length taken + length bytes)
TakesPart part.NoMemory taken chunk t rest = ⊤

-- the same of the length alone
abbrev pub PartFits : Part → ℕ → ℕ → Type 0
PartFits part.More before now = (before < now) × (now ≤ most_bytes)
PartFits part.Ended before now = now ≤ most_bytes
PartFits part.Long before now = ⊤
PartFits part.NoMemory before now = ⊤

-- ---- chunks

-- what a chunk and the source together have, before and after it was filled
abbrev pub Fills : Filled → List ℕ → List ℕ → List ℕ → List ℕ → Type 0
Fills Bytes rest left rest' left' = rest ++ left ≡ rest' ++ left'
Fills End rest left rest' left' = (rest ++ left ≡ []) × (rest' ≡ []) × (left' ≡ [])
Fills Fault rest left rest' left' = rest ++ left ≡ left'

abbrev pub FillsSome : Filled → List ℕ → Type 0
FillsSome Bytes rest = 0 < length rest
FillsSome End rest = ⊤
FillsSome Fault rest = ⊤

-- the count rose at a fault, and is as before otherwise
abbrev pub FillCause : Filled → ℕ → ℕ → Type 0
FillCause Bytes before now = now ≡ before
FillCause End before now = now ≡ before
FillCause Fault before now = Rose before now

-- how far a line was taken, out of all the bytes, before those of the chunk and those left
pub record Took (bytes rest left : List ℕ) (t : Text) : Type 0 where
  pub taken : List ℕ
  pub has : HasTaken taken t
  pub split : bytes ≡ taken ++ (rest ++ left)

-- ---- answers

-- a reader between two answers
abbrev pub reader : List ℕ → ℕ → ℕ → Option Stop → Reader
reader rest read lines stopped = record { rest = rest; read = read; lines = lines; stopped = stopped }

-- behind a line that no LF ends the reader reads no more
abbrev pub last_stop : Line → Option Stop
last_stop answer = option_or (stop_of answer) (Some stop.End)
