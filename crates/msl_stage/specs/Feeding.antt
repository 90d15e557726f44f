-- What becomes of records that go into a line, one after the other, and of the end of its input. R is what the line makes
-- of a stream before, and R' behind them.
use Rattle.std.specs.Prelude.{ℕ, ◌≡◌, List, [], ◌++◌, length, Option, Result, Ok, Err}
use Rattle.std.specs.Io.KnownBytes.{Appends, Keeps}
use Rattle.msl_base.specs.Records.{Kept}
use Rattle.msl_base.specs.Streams.{Record, Outcome, done, failed, Stream, stream, before}
use Rattle.msl_base.specs.declared.fault.Fault.{Fault}
use Rattle.msl_base.specs.declared.fault.End.{End}
use Rattle.msl_base.specs.declared.fault.End.TheVariants as ends
use Rattle.msl_base.specs.declared.answer.Halt.{Halt}
use Rattle.msl_base.specs.declared.answer.Halt.TheVariants as halt
use Rattle.msl_fun.specs.declared.funs.Fun.{Fun}
use Rattle.msl_io.specs.Causes.{Rose}
use Rattle.msl_io.specs.Text.{text}
use Rattle.msl_stage.specs.declared.run.Stop.{Stop}
use Rattle.msl_stage.specs.declared.run.Stop.TheVariants.{Halted, Unwritten}
use Rattle.msl_stage.specs.declared.step.Step.{Step}
use Rattle.msl_stage.specs.Answers.{records_of}
use Rattle.msl_stage.specs.Lines.{LineRuns}

-- these records were taken and those were made of them; what follows is what R' makes of what follows
abbrev pub GoesOn : (Stream → Stream → Type 0) → (Stream → Stream → Type 0) → List Record → List Record → Type 0
GoesOn R' R got sent = (S T : Stream) → R' S T → R (before got S) (before sent T)

-- the output ends with a fault, whatever follows
abbrev pub StopsAt : (Stream → Stream → Type 0) → List Record → List Record → Fault → Type 0
StopsAt R got sent f = (S : Stream) → R (before got S) (stream sent (failed f))

-- whatever follows, these records are the first of something that may be made
abbrev pub IsBegun : (Stream → Stream → Type 0) → List Record → List Record → Type 0
IsBegun R got sent = (S : Stream) → (T : Stream) × R (before got S) T × (others : List Record) × (T.records ≡ sent ++ others)

-- whatever follows, this is the beginning of the text of something that may be made
abbrev pub IsCut : (Stream → Stream → Type 0) → List Record → List ℕ → Type 0
IsCut R got written = (S : Stream) → (T : Stream) × R (before got S) T × (rest : List ℕ) × (text T.records ≡ written ++ rest)

-- the end of a stream at which a step has no result
abbrev pub end_of : Halt → End
end_of (halt.Fault f) = ends.Fault f
end_of halt.NoMemory = ends.Memory

-- how a stream ends that stops so
abbrev pub end_by : Stop → Halt → End
end_by Halted why = end_of why
end_by Unwritten why = ends.Write

-- what a call comes to, with why a step had no result
abbrev pub ended : {A : Type 0} → Result A Stop → Halt → Result A End
ended (Ok a) why = Ok a
ended (Err s) why = Err (end_by s why)

-- the records went through, and what was made of them was written, or why not; no other end comes here
abbrev pub Fed : {A : Type 0} → (Stream → Stream → Type 0) → (Stream → Stream → Type 0) → List Record → Result A End → Option (List ℕ) → Option (List ℕ) → Type 0
Fed R' R got (Ok a) held now = (sent : List Record) × Appends held now (text sent) × GoesOn R' R got sent
Fed R' R got (Err (ends.Fault f)) held now = (sent : List Record) × Appends held now (text sent) × StopsAt R got sent f
Fed R' R got (Err ends.Write) held now = (written : List ℕ) × Appends held now written × IsCut R got written
Fed R' R got (Err ends.Memory) held now = (sent : List Record) × Appends held now (text sent) × IsBegun R got sent
Fed R' R got (Err ends.Done) held now = ⊥
Fed R' R got (Err ends.Read) held now = ⊥
Fed R' R got (Err ends.Stopped) held now = ⊥

-- the same of the end of a whole input
abbrev pub Finished : {A : Type 0} → (Stream → Stream → Type 0) → Result A End → Option (List ℕ) → Option (List ℕ) → Type 0
Finished R (Ok a) held now = (sent : List Record) × Appends held now (text sent) × R (stream [] done) (stream sent done)
Finished R (Err (ends.Fault f)) held now = (sent : List Record) × Appends held now (text sent) × R (stream [] done) (stream sent (failed f))
Finished R (Err ends.Write) held now = (written : List ℕ) × Appends held now written × (T : Stream) × R (stream [] done) T × (rest : List ℕ) × (text T.records ≡ written ++ rest)
Finished R (Err ends.Memory) held now = (sent : List Record) × Appends held now (text sent) × (T : Stream) × R (stream [] done) T × (others : List Record) × (T.records ≡ sent ++ others)
Finished R (Err ends.Done) held now = ⊥
Finished R (Err ends.Read) held now = ⊥
Finished R (Err ends.Stopped) held now = ⊥

-- the sink's count rose where writing failed, and is as before where it did not
abbrev pub FeedCause : {A : Type 0} → Result A End → ℕ → ℕ → Type 0
FeedCause (Ok a) sink sink' = sink' ≡ sink
FeedCause (Err ends.Write) sink sink' = Rose sink sink'
FeedCause (Err ends.Done) sink sink' = sink' ≡ sink
FeedCause (Err (ends.Fault f)) sink sink' = sink' ≡ sink
FeedCause (Err ends.Read) sink sink' = sink' ≡ sink
FeedCause (Err ends.Memory) sink sink' = sink' ≡ sink
FeedCause (Err ends.Stopped) sink sink' = sink' ≡ sink

module _ {O : Type 0} (one : O → Record → Outcome → Type 0) (funs : List Fun) where
  -- records that go into the steps from a place on, where those before it stay
  abbrev pub Feeds : {A : Type 0} → List (Step O) → List (Step O) → ℕ → List Record → Result A End → Option (List ℕ) → Option (List ℕ) → Type 0
  Feeds old new at got r held now =
      (front back : List (Step O)) → old ≡ front ++ back → length front ≡ at
      → (back' : List (Step O)) × (new ≡ front ++ back') × Fed (LineRuns one funs back') (LineRuns one funs back) got r held now

  -- the same of a filter's outputs, or of its refusal
  abbrev pub Spreads : {A : Type 0} → List (Step O) → List (Step O) → ℕ → Result (List Kept) Halt → Result A End → Option (List ℕ) → Option (List ℕ) → Type 0
  Spreads old new at (Ok outs) r held now = Feeds old new at (records_of outs) r held now
  Spreads old new at (Err (halt.Fault f)) r held now = (r ≡ Err (ends.Fault f)) × (new ≡ old) × Keeps held now
  Spreads old new at (Err halt.NoMemory) r held now = (r ≡ Err ends.Memory) × (new ≡ old) × Keeps held now

  -- the end of the input of the steps from a place on
  abbrev pub Finishes : {A : Type 0} → List (Step O) → ℕ → Result A End → Option (List ℕ) → Option (List ℕ) → Type 0
  Finishes old at r held now = (front back : List (Step O)) → old ≡ front ++ back → length front ≡ at → Finished (LineRuns one funs back) r held now
