-- What one answer of the reader says, and how reading comes to its end.
use Rattle.std.proofs.Common.{rules, ◌≡◌, ℕ, ◌+◌, ◌≤◌, List, [], ◌∷◌, ◌++◌, ap, sym, refl, ◌∙◌, subst, Bool, true, false, cond, Option, Some, None, Ok, IsNone, IsSome, append_assoc, append-nil}
use Rattle.msl_base.specs.declared.fault.End.{End}
use Rattle.msl_base.specs.declared.fault.End.TheVariants as ends
use Rattle.msl_base.specs.Streams.{Record, Outcome, done, failed, unread, stream, before}
use Rattle.msl_io.specs.Lines.{Row, row, rows_of, FirstRow, HasNoLf, whole, reading, led_by, stream_of, part_of, reads, most_lines}
use Rattle.msl_io.specs.Known.{Told}
use Rattle.msl_io.specs.Reader.{Reader, Reads, Before, After, after_of, GivesRecord, IsEndOf, Counts, ReadCause, stop_of, MayGoOn}
use Rattle.msl_io.specs.declared.lines.Line.{Line}
use Rattle.msl_io.specs.declared.lines.Line.TheVariants as line
use Rattle.msl_io.specs.declared.lines.Stop.{Stop}
use Rattle.msl_io.specs.declared.lines.Stop.TheVariants as stop
use Rattle.msl_io.proofs.Rows.{first_row, rows_of-ended, stream-row, part-row}
use Rattle.msl_io.proofs.Told.{told_map}
use Rattle.msl_stage.specs.Reading.{next_of, IsAtEnd, IsStopped, from, Takes, TakeCause, AreLines, ReadsOn, IsOver, HasRead, BeginsWith, StopsSo}
use Rattle.msl_stage.proofs.Steps.{before-before}

-- a reader that goes on, or has given a last line that no LF ends
pub by_going : (P : Option Stop → Type 0) → P None → P (Some stop.End) → (stopped : Option Stop) → MayGoOn stopped → P stopped
by_going P none over None going = none
by_going P none over (Some stop.End) going = over
by_going P none over (Some (stop.BadRecord i)) going = absurd going
by_going P none over (Some (stop.LongLine i)) going = absurd going
by_going P none over (Some (stop.WideRecord i)) going = absurd going
by_going P none over (Some stop.ManyLines) going = absurd going
by_going P none over (Some stop.ReadFault) going = absurd going
by_going P none over (Some stop.NoMemory) going = absurd going

-- ---- what an answer of the reader says

takes_of : (b c : Option (List ℕ)) (old new : Reader) (answer : Line) → Told b c (λ l l'. Reads (from old l) (after_of new l') answer) → Counts old new answer → Takes None b c old new (next_of answer)
takes_of b c old new (line.Rec r) reads counts = (reads, counts)
takes_of b c old new line.End reads counts = reads
takes_of b c old new (line.BadRecord k) reads counts = reads
takes_of b c old new (line.LongLine k) reads counts = told_map b c reads (λ x y r. r.is)
takes_of b c old new (line.WideRecord k) reads counts = reads
takes_of b c old new line.ManyLines reads counts = reads
takes_of b c old new line.ReadFault reads counts = reads
takes_of b c old new line.NoMemory reads counts = reads

ends_again : (answer : Line) → stop_of answer ≡ Some stop.End → next_of answer ≡ Ok None
ends_again (line.Rec r) e = cc
ends_again line.End e = refl
ends_again (line.BadRecord k) e = cc
ends_again (line.LongLine k) e = cc
ends_again (line.WideRecord k) e = cc
ends_again line.ManyLines e = cc
ends_again line.ReadFault e = cc
ends_again line.NoMemory e = cc

pub taken : (b c : Option (List ℕ)) (old new : Reader) (answer : Line) (stopped : Option Stop) → MayGoOn stopped
    → (IsNone stopped → Told b c (λ l l'. Reads (from old l) (after_of new l') answer)) → (IsNone stopped → Counts old new answer)
    → (IsSome stopped → (stop_of answer ≡ stopped) × (c ≡ b)) → Takes stopped b c old new (next_of answer)
taken b c old new answer = by_going
    (λ stopped. (IsNone stopped → Told b c (λ l l'. Reads (from old l) (after_of new l') answer)) → (IsNone stopped → Counts old new answer)
    → (IsSome stopped → (stop_of answer ≡ stopped) × (c ≡ b)) → Takes stopped b c old new (next_of answer))
    (λ reads counts again. takes_of b c old new answer (reads (search rules)) (counts (search rules)))
    (λ reads counts again. let same = again (search rules) in subst (Takes (Some stop.End) b c old new) (sym (ends_again answer same.0)) same.1)

cause_of : (answer : Line) (before now : ℕ) → ReadCause answer before now → TakeCause (next_of answer) before now
cause_of (line.Rec r) before now h = h
cause_of line.End before now h = h
cause_of (line.BadRecord k) before now h = h
cause_of (line.LongLine k) before now h = h
cause_of (line.WideRecord k) before now h = h
cause_of line.ManyLines before now h = h
cause_of line.ReadFault before now h = h
cause_of line.NoMemory before now h = h

pub take_cause : (answer : Line) (before now : ℕ) (stopped : Option Stop) → MayGoOn stopped → (IsNone stopped → ReadCause answer before now) → (IsSome stopped → (stop_of answer ≡ stopped) × (now ≡ before)) → TakeCause (next_of answer) before now
take_cause answer before now = by_going
    (λ stopped. (IsNone stopped → ReadCause answer before now) → (IsSome stopped → (stop_of answer ≡ stopped) × (now ≡ before)) → TakeCause (next_of answer) before now)
    (λ cause again. cause_of answer before now (cause (search rules)))
    (λ cause again. let same = again (search rules) in subst (λ r. TakeCause r before now) (sym (ends_again answer same.0)) same.1)

-- ---- lines

lines_none : AreLines [] [] 1
lines_none = record { whole = λ tail. refl; front = λ tail. refl }

-- one more whole line
lines_more : (consumed bytes : List ℕ) (records : List Record) (x : Record) (n : ℕ) → AreLines consumed records n → HasNoLf bytes → reading n (row bytes true) ≡ Ok x → n ≤ most_lines → AreLines (consumed ++ (bytes ++ 10 ∷ [])) (records ++ x ∷ []) (n + 1)
lines_more consumed bytes records x n l h e le =
    let regrouped : (tail : List ℕ) → (consumed ++ (bytes ++ 10 ∷ [])) ++ tail ≡ consumed ++ (bytes ++ 10 ∷ tail) = λ tail.
    append_assoc consumed (bytes ++ 10 ∷ []) tail ∙ ap (λ (t : List ℕ). consumed ++ t) (append_assoc bytes (10 ∷ []) tail) in
    record {
      whole = λ tail.
          ap (λ (t : List ℕ). stream_of most_lines 1 (rows_of t)) (regrouped tail) ∙ l.whole (bytes ++ 10 ∷ tail)
          ∙ ap (λ (t : List Row). before records (stream_of most_lines n t)) (rows_of-ended bytes tail h)
          ∙ ap (before records) (stream-row most_lines n (row bytes true) (rows_of tail) le ∙ ap (λ (o : Outcome). led_by o (stream_of most_lines (n + 1) (rows_of tail))) e)
          ∙ before-before records (x ∷ []) (stream_of most_lines (n + 1) (rows_of tail));
      front = λ tail.
          ap (λ (t : List ℕ). part_of most_lines 1 (rows_of t)) (regrouped tail) ∙ l.front (bytes ++ 10 ∷ tail)
          ∙ ap (λ (t : List Row). before records (part_of most_lines n t)) (rows_of-ended bytes tail h)
          ∙ ap (before records) (part-row most_lines n bytes (rows_of tail) le ∙ ap (λ (o : Outcome). led_by o (part_of most_lines (n + 1) (rows_of tail))) e)
          ∙ before-before records (x ∷ []) (part_of most_lines (n + 1) (rows_of tail));
    }

-- what is there before a line of this number
abbrev pub at : ℕ → List ℕ → Before
at n bytes = record { limit = most_lines; number = n; bytes = bytes }

-- the stream of bytes that begin with a record
begins : (n : ℕ) (bytes : List ℕ) (a : After) (x : Record) → GivesRecord (at n bytes) a x → stream_of most_lines n (rows_of bytes) ≡ before (x ∷ []) (stream_of most_lines (n + 1) (rows_of a.bytes))
begins n bytes a x g =
    ap (stream_of most_lines n) (first_row bytes a.bytes g.line g.first) ∙ stream-row most_lines n g.line (rows_of a.bytes) g.within
    ∙ ap (λ (o : Outcome). led_by o (stream_of most_lines (n + 1) (rows_of a.bytes))) g.reads_as

-- ---- the records so far

pub reads_from : (input : List ℕ) → ReadsOn input input [] 1
reads_from input = record { consumed = []; split = refl; lines = lines_none }

-- the whole input has these records, and what is left
rest_of : (input bytes : List ℕ) (records : List Record) (n : ℕ) → ReadsOn input bytes records n → reads input ≡ before records (stream_of most_lines n (rows_of bytes))
rest_of input bytes records n g = ap (λ (t : List ℕ). stream_of most_lines 1 (rows_of t)) g.split ∙ g.lines.whole bytes

-- the same with one record more
after_record : (input bytes : List ℕ) (records : List Record) (n : ℕ) (a : After) (x : Record) → ReadsOn input bytes records n → GivesRecord (at n bytes) a x
    → reads input ≡ before (records ++ x ∷ []) (stream_of most_lines (n + 1) (rows_of a.bytes))
after_record input bytes records n a x g r =
    rest_of input bytes records n g ∙ ap (before records) (begins n bytes a x r) ∙ before-before records (x ∷ []) (stream_of most_lines (n + 1) (rows_of a.bytes))

pub begins_next : (input bytes : List ℕ) (records : List Record) (n : ℕ) (a : After) (x : Record) → ReadsOn input bytes records n → GivesRecord (at n bytes) a x → BeginsWith input (records ++ x ∷ [])
begins_next input bytes records n a x g r = (stream_of most_lines (n + 1) (rows_of a.bytes), after_record input bytes records n a x g r)

-- one record more
next_by : (input bytes after rest left : List ℕ) (records : List Record) (n : ℕ) (x : Record) (bytes_of : List ℕ) (ended : Bool) → ReadsOn input bytes records n
    → FirstRow bytes (row bytes_of ended) after → reading n (row bytes_of ended) ≡ Ok x → n ≤ most_lines
    → after ≡ rest ++ left → HasRead input after left (records ++ x ∷ []) (n + 1) (cond ended None (Some stop.End))
next_by input bytes after rest left records n x b true g first is le split = record {
  consumed = g.consumed ++ (b ++ 10 ∷ []);
  split = g.split ∙ ap (λ (t : List ℕ). g.consumed ++ t) first.split ∙ sym (append_assoc g.consumed (b ++ 10 ∷ []) after);
  lines = lines_more g.consumed b records x n g.lines first.no_lf is le;
}
next_by input bytes after rest left records n x b false g first is le split =
    let none = (first.last refl).0 in
    let a : After = record { bytes = after; left = left; stopped = Some stop.End } in
    let r : GivesRecord (at n bytes) a x = record { line = row b false; first = first; within = le; reads_as = is; stops = refl } in (
      after_record input bytes records n a x g r
          ∙ ap (λ (t : List ℕ). before (records ++ x ∷ []) (stream_of most_lines (n + 1) (rows_of t))) none
          ∙ ap (λ (l : List Record). stream l done) (append-nil (records ++ x ∷ [])),
      no_left rest left (sym split ∙ none),
    )
  where
    no_left : (rest left : List ℕ) → rest ++ left ≡ [] → left ≡ []
    no_left [] left e = e
    no_left (b ∷ rest) left e = cc

pub reads_next : (input bytes rest left : List ℕ) (records : List Record) (n : ℕ) (stopped : Option Stop) (x : Record) → ReadsOn input bytes records n
    → GivesRecord (at n bytes) (record { bytes = rest ++ left; left = left; stopped = stopped }) x → HasRead input (rest ++ left) left (records ++ x ∷ []) (n + 1) stopped
reads_next input bytes rest left records n stopped x g r =
    subst (HasRead input (rest ++ left) left (records ++ x ∷ []) (n + 1)) (sym r.stops)
    (next_by input bytes (rest ++ left) rest left records n x r.line.bytes r.line.ended g r.first r.reads_as r.within refl)

-- ---- what is left is an end of the input

goes_end : (input bytes left : List ℕ) (records : List Record) (n : ℕ) → ReadsOn input bytes records n → IsEndOf left bytes → IsEndOf left input
goes_end input bytes left records n g (taken, e) = (g.consumed ++ taken, g.split ∙ ap (λ (t : List ℕ). g.consumed ++ t) e ∙ sym (append_assoc g.consumed taken left))

pub gives_left : (input bytes rest left : List ℕ) (records : List Record) (n : ℕ) (stopped : Option Stop) (x : Record) → ReadsOn input bytes records n
    → GivesRecord (at n bytes) (record { bytes = rest ++ left; left = left; stopped = stopped }) x → IsEndOf left input
gives_left input bytes rest left records n stopped x g r =
    goes_end input bytes left records n g (whole r.line ++ rest, r.first.split ∙ sym (append_assoc (whole r.line) rest left))

pub over_left : (input left : List ℕ) (records : List Record) → IsOver input left records → IsEndOf left input
over_left input left records o = (input, sym (append-nil input) ∙ ap (λ (t : List ℕ). input ++ t) (sym o.1))

pub ends_left : (input bytes : List ℕ) (records : List Record) (n : ℕ) (a : After) (e : End) → ReadsOn input bytes records n → IsStopped (at n bytes) a e → IsEndOf a.left input
ends_left input bytes records n a ends.Done g e = absurd e
ends_left input bytes records n a (ends.Fault why) g e = goes_end input bytes a.left records n g (e.taken, e.split)
ends_left input bytes records n a ends.Read g e = goes_end input bytes a.left records n g (e.taken, e.split)
ends_left input bytes records n a ends.Memory g e = goes_end input bytes a.left records n g e
ends_left input bytes records n a ends.Write g e = absurd e
ends_left input bytes records n a ends.Stopped g e = absurd e

pub at_end_left : (input bytes : List ℕ) (records : List Record) (n : ℕ) (a : After) → ReadsOn input bytes records n → IsAtEnd (at n bytes) a → IsEndOf a.left input
at_end_left input bytes records n a g e = goes_end input bytes a.left records n g ([], e.0 ∙ sym e.1)

-- ---- the end of the input

-- no record is left
pub over_at_end : (input bytes : List ℕ) (records : List Record) (n : ℕ) (a : After) → ReadsOn input bytes records n → IsAtEnd (at n bytes) a → IsOver input a.left records
over_at_end input bytes records n a g e = (
  rest_of input bytes records n g ∙ ap (λ (t : List ℕ). before records (stream_of most_lines n (rows_of t))) e.0 ∙ ap (λ (t : List Record). stream t done) (append-nil records),
  e.1,
)

-- or it stops
pub stops_so : (input bytes : List ℕ) (records : List Record) (n : ℕ) (a : After) (e : End) → ReadsOn input bytes records n → IsStopped (at n bytes) a e → StopsSo input a.left records e
stops_so input bytes records n a (ends.Fault why) g e =
    rest_of input bytes records n g ∙ ap (before records) e.refused ∙ ap (λ (t : List Record). stream t (failed why)) (append-nil records)
stops_so input bytes records n a ends.Read g e = (
  (stream_of most_lines n (rows_of bytes), rest_of input bytes records n g),
  (
    g.consumed ++ e.taken,
    g.split ∙ ap (λ (t : List ℕ). g.consumed ++ t) e.split ∙ sym (append_assoc g.consumed e.taken a.left),
    g.lines.front e.taken ∙ ap (before records) e.unrefused ∙ ap (λ (t : List Record). stream t unread) (append-nil records),
  ),
)
stops_so input bytes records n a ends.Memory g e = (stream_of most_lines n (rows_of bytes), rest_of input bytes records n g)
stops_so input bytes records n a ends.Done g e = absurd e
stops_so input bytes records n a ends.Write g e = absurd e
stops_so input bytes records n a ends.Stopped g e = absurd e
