-- How the reading of a text goes on.
use Rattle.std.proofs.Common.{arith, ◌≡◌, ◌≤◌, ◌<◌, ℕ, ◌+◌, ◌-◌, List, [], ◌∷◌, ◌++◌, length, sym, ap, subst, Option, Some, Ok, length-append}
use Rattle.std.proofs.lemmas.List.Elements.{All-take}
use Rattle.std.proofs.Math.Seq.{take-append_seam}
use Rattle.std.specs.Prelude.{All}
use Rattle.msl_base.specs.declared.rec.Rec.{Rec}
use Rattle.msl_base.specs.Streams.{Record, Stream}
use Rattle.msl_io.specs.Lines.{reads, most_lines}
use Rattle.msl_io.specs.Reader.{Reader, after_of, MayGoOn}
use Rattle.msl_io.specs.declared.lines.Stop.{Stop}
use Rattle.msl_stage.specs.Reading.{HasRead, BeginsWith, Takes}
use Rattle.msl_stage.proofs.Reading.{by_going, reads_next, begins_next}
use Rattle.msl_demo_laws.specs.Results.{IsResult}
use Rattle.msl_demo.specs.Reading.{Comes}
use Rattle.msl_demo.specs.declared.tally.Tally.{Tally}
use Rattle.msl_demo.specs.Tallies.{AreFew, IsTallyOf, MayCount}

module _ (text : List ℕ) (front : List Record) (old new : Reader) (src src' : List ℕ) (lines : new.lines ≡ most_lines) where
  pub record_comes : (rec : Rec) (stopped : Option Stop) → MayGoOn stopped → HasRead text (old.rest ++ src) src front (old.read + 1) stopped
      → Takes stopped (Some src) (Some src') old new (Ok (Some rec)) → Comes text front old new src' (Ok (Some rec))
  record_comes rec = by_going
      (λ stopped. HasRead text (old.rest ++ src) src front (old.read + 1) stopped → Takes stopped (Some src) (Some src') old new (Ok (Some rec)) → Comes text front old new src' (Ok (Some rec)))
      (λ on takes. (
        record {
          read = subst (λ (n : ℕ). HasRead text (new.rest ++ src') src' (front ++ rec.numbers ∷ []) (n + 1) new.stopped) (sym takes.1.0)
              (reads_next text (old.rest ++ src) new.rest src' front (old.read + 1) new.stopped rec.numbers on takes.0);
          going = takes.1.2;
          lines = lines;
          within = takes.1.1;
        },
        begins_next text (old.rest ++ src) front (old.read + 1) (after_of new src') rec.numbers on takes.0,
        takes.1.0,
      ))
      (λ over takes. absurd takes)

-- records at the front of few ones are few
pub few_front : (xs front rest : List Record) → xs ≡ front ++ rest → AreFew xs → AreFew front
few_front xs front rest is h = record {
  results = subst (All IsResult) (take-append_seam front rest) (All-take IsResult (length front) (front ++ rest) (subst (All IsResult) is h.results));
  few = omega (arith, ap (λ (l : List Record). length l) is, length-append front rest, h.few);
}

-- ---- what is counted

-- the next record can be counted
pub may_count : (text : List ℕ) (front : List Record) (x : Record) (t : Tally) → AreFew (reads text).records → BeginsWith text (front ++ x ∷ []) → IsTallyOf front t → MayCount t x
may_count text front x t few (rest, begins) tally =
    (front, tally, few_front (reads text).records (front ++ x ∷ []) rest.records (ap (λ (X : Stream). X.records) begins) few)

-- a reader that went on by one line
pub went_on : (old new again : Reader) → again ≡ new → new.read ≡ old.read + 1 → new.read ≤ new.lines → old.lines ≡ most_lines → new.lines ≡ most_lines → again.lines - again.read < old.lines - old.read
went_on old new again same read within lines lines' =
    omega (arith, ap (λ (r : Reader). r.lines) same, ap (λ (r : Reader). r.read) same, read, within, lines, lines')
