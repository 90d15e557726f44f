-- What calls on a record or a stream may answer.
use Rattle.std.specs.Prelude.{◌≡◌, List, map, Result, Ok, Err, ⊤}
use Rattle.msl_base.specs.Records.{Kept}
use Rattle.msl_base.specs.Streams.{Record, Outcome}
use Rattle.msl_base.specs.declared.fault.Fault.{Fault}
use Rattle.msl_base.specs.declared.answer.Answer.{Answer}
use Rattle.msl_base.specs.declared.answer.Answer.TheVariants as answer
use Rattle.msl_base.specs.declared.answer.Halt.{Halt}
use Rattle.msl_base.specs.declared.answer.Halt.TheVariants as halt
use Rattle.msl_stage.specs.declared.filter.FilterState.{FilterState}

-- an outcome that may be, or want of memory
abbrev pub MayAnswer : (Outcome → Type 0) → Answer → Type 0
MayAnswer P (answer.Rec r) = P (Ok r.numbers)
MayAnswer P (answer.Fault f) = P (Err f)
MayAnswer P answer.NoMemory = ⊤

-- the same of a record that was to become its result
abbrev pub MayMake : {A : Type 0} → (Outcome → Type 0) → Record → Result A Halt → Type 0
MayMake P y (Ok a) = P (Ok y)
MayMake P y (Err (halt.Fault f)) = P (Err f)
MayMake P y (Err halt.NoMemory) = ⊤

-- what a call comes to, with the halt that it was lent
abbrev pub made_by : {A B : Type 0} → Result A B → Halt → Result A Halt
made_by (Ok a) why = Ok a
made_by (Err b) why = Err why

abbrev pub numbers_of : Kept → Record
numbers_of r = r.numbers

-- the records of an output
abbrev pub records_of : List Kept → List Record
records_of outs = map numbers_of outs

-- a filter's outputs, or its fault; `NoMemory` may always come
abbrev pub Gives : Result (List Record) Fault → Result (List Kept) Halt → Type 0
Gives r (Ok outs) = r ≡ Ok (records_of outs)
Gives r (Err (halt.Fault f)) = r ≡ Err f
Gives r (Err halt.NoMemory) = ⊤

-- a filter's outputs with the state that it goes to, or its fault; at a refusal it is as before
abbrev pub StepsTo : Result (List Record × Record) Fault → FilterState → FilterState → Result (List Kept) Halt → Type 0
StepsTo r old new (Ok outs) = (r ≡ Ok (records_of outs, new.state)) × (new.spec ≡ old.spec) × (new.stage ≡ old.stage)
StepsTo r old new (Err (halt.Fault f)) = (r ≡ Err f) × (new ≡ old)
StepsTo r old new (Err halt.NoMemory) = new ≡ old
