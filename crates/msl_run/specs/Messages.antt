-- The one line that tells how a run ended.
use Rattle.std.specs.Prelude.{ℕ, ◌≡◌, ◌⊎◌, List, [], ◌∷◌, ◌++◌, codes, decimal, map, Option}
use Rattle.std.specs.List.{join_with_byte}
use Rattle.std.specs.Io.KnownBytes.{Appends}
use Rattle.msl_base.specs.declared.fault.Fault.{Fault}
use Rattle.msl_base.specs.declared.fault.Fault.TheVariants.{BadRecord, LongLine, WideRecord, ManyLines, Shape, Overflow, DivZero, Steps, Count, NotPermutation, Ragged, Depth, BoundBroken, Value}
use Rattle.msl_io.specs.Text.{AppendsFront}
use Rattle.msl_lex.specs.declared.kind.Kind.{Kind}
use Rattle.msl_lex.specs.declared.kind.Kind.TheVariants as kinds
use Rattle.msl_run.specs.Causes.{Count as Counted, Stays, Rises}
use Rattle.msl_run.specs.declared.status.Status.{Status}
use Rattle.msl_run.specs.declared.status.Status.TheVariants.{Done, Usage, Library, ScriptLong, Script, Need, Stream, Read, Write, Memory}

-- what is wrong at a line, or at a stage
abbrev pub at_line : ℕ → List ℕ → List ℕ
at_line n what = codes "line " ++ (decimal n ++ (codes ": " ++ what))

abbrev pub at_stage : ℕ → List ℕ → List ℕ
at_stage k what = codes "stage " ++ (decimal k ++ (codes ": " ++ what))

-- a path: its steps with dots between, or `root`
abbrev pub path_text : List ℕ → List ℕ
path_text [] = codes "root"
path_text (child ∷ steps) = join_with_byte 46 (map decimal (child ∷ steps))

-- steps with a dot before each
abbrev pub dotted : List ℕ → List ℕ
dotted [] = []
dotted (child ∷ steps) = 46 ∷ decimal child ++ dotted steps

abbrev pub fault_text : Fault → List ℕ
fault_text (BadRecord n) = at_line n (codes "bad record")
fault_text (LongLine n) = at_line n (codes "line too long")
fault_text (WideRecord n) = at_line n (codes "too many numbers")
fault_text ManyLines = codes "too many lines"
fault_text (Shape k got want) = at_stage k (codes "record of " ++ (decimal got ++ (codes " numbers, " ++ (decimal want ++ codes " wanted"))))
fault_text (Overflow k) = at_stage k (codes "overflow")
fault_text (DivZero k) = at_stage k (codes "division by zero")
fault_text (Steps k) = at_stage k (codes "too many steps")
fault_text (Count k) = at_stage k (codes "bad count")
fault_text (NotPermutation k) = at_stage k (codes "not a permutation")
fault_text (Ragged k) = at_stage k (codes "blocks differ in size")
fault_text (Depth k path) = at_stage k (codes "too deep at " ++ path_text path)
fault_text (BoundBroken k path) = at_stage k (codes "bound broken at " ++ path_text path)
fault_text (Value k path) = at_stage k (codes "no such value at " ++ path_text path)

-- why a script is refused
abbrev pub kind_text : Kind → List ℕ
kind_text kinds.Expected = codes "expected"
kind_text kinds.Version = codes "version"
kind_text kinds.InFarm = codes "filter in farm"
kind_text kinds.Many = codes "many"
kind_text kinds.Deep = codes "deep"
kind_text kinds.Twice = codes "twice"
kind_text kinds.Unknown = codes "unknown"
kind_text kinds.WrongKind = codes "wrong kind"
kind_text kinds.Width = codes "width"
kind_text kinds.Range = codes "range"
kind_text kinds.Byte = codes "byte"
kind_text kinds.LongName = codes "long name"
kind_text kinds.Number = codes "number"

abbrev pub line_of : List ℕ → List ℕ
line_of what = codes "muesli: " ++ (what ++ 10 ∷ [])

-- the message of a status; nothing after Done
abbrev pub message_of : Status → List ℕ
message_of Done = []
message_of Usage = line_of (codes "usage: muesli seq FILE, rounds FILE, run FILE, check FILE or demo N, with -p N and for run -t T")
message_of Library = line_of (codes "cannot read script")
message_of ScriptLong = line_of (codes "script too long")
message_of (Script kind at) = line_of (codes "script: " ++ (kind_text kind ++ (codes " at " ++ decimal at)))
message_of (Need need have) = line_of (codes "need " ++ (decimal need ++ (codes " processes, have " ++ decimal have)))
message_of (Stream f) = line_of (fault_text f)
message_of Read = line_of (codes "read fault")
message_of Write = line_of (codes "write fault")
message_of Memory = line_of (codes "out of memory")

-- A sink grew by the message and handed it on, or its count rose and it grew by a beginning of it, maybe all.
abbrev pub Tells : Status → Option (List ℕ) → Option (List ℕ) → Option (List ℕ) → Counted → Type 0
Tells status held now flushed faults =
    (Appends held now (message_of status) × (flushed ≡ now) × Stays faults) ⊎ (AppendsFront held now (message_of status) × Rises faults)
