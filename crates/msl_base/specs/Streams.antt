-- Streams, and what it means to treat a stream record by record.
--     Pointwise one X Y      each record of X by itself, in order, up to the first fault
--     Unordered one X Y      the same by several workers at once: the results in any order
--     pointwise f X          the first as a function, for a function f from records to outcomes
--     Sound R X Y            Y is a whole answer to X, or the beginning of one
use Rattle.std.specs.Prelude.{◌≡◌, ℤ, List, [], ◌∷◌, ◌++◌, map, Option, Some, None, Result, Ok, Err, IsPermutation, ◌⊎◌, ⊤}
use Rattle.msl_base.specs.declared.fault.Fault.{Fault}

abbrev pub Record : Type 0
Record = List ℤ

-- what becomes of one record: a record, or a fault
abbrev pub Outcome : Type 0
Outcome = Result Record Fault

-- How a stream ends: it is whole, it stops at a fault, or no more of it can be read. A cut stream is the beginning
-- of another; it is no end of a meaning.
pub data Ending : Type 0 where
  done : Ending
  failed : Fault → Ending
  unread : Ending
  cut : Ending

pub record Stream : Type 0 where
  pub records : List Record
  pub ending : Ending

abbrev pub stream : List Record → Ending → Stream
stream X e = record { records = X; ending = e }

-- these records, and then a stream
abbrev pub before : List Record → Stream → Stream
before X s = stream (X ++ s.records) s.ending

-- ---- trials

-- a record, and what became of it
abbrev pub Trial : Type 0
Trial = Record × Outcome

abbrev pub tried : Trial → Record
tried t = t.0

abbrev pub AllTrue : (Record → Outcome → Type 0) → List Trial → Type 0
AllTrue one [] = Unit {0}
AllTrue one (t ∷ ts) = one t.0 t.1 × AllTrue one ts

-- all records among the outcomes
abbrev pub goods : List Trial → List Record
goods [] = []
goods ((x, Ok y) ∷ ts) = y ∷ goods ts
goods ((x, Err f) ∷ ts) = goods ts

-- the records before the first fault
abbrev pub before_fault : List Trial → List Record
before_fault [] = []
before_fault ((x, Ok y) ∷ ts) = y ∷ before_fault ts
before_fault ((x, Err f) ∷ ts) = []

abbrev pub first_fault : List Trial → Option Fault
first_fault [] = None
first_fault ((x, Ok y) ∷ ts) = first_fault ts
first_fault ((x, Err f) ∷ ts) = Some f

-- ---- a stage that takes each record by itself

-- the first fault ends the output; where there is none, all records were tried, and the output ends as the input
abbrev pub EndsBy : Option Fault → List Record → Ending → Ending → Type 0
EndsBy (Some f) rest e e' = e' ≡ failed f
EndsBy None rest e e' = (rest ≡ []) × (e' ≡ e)

pub record Pointwise (one : Record → Outcome → Type 0) (X Y : Stream) : Type 0 where
  pub trials : List Trial
  pub rest : List Record
  pub all : AllTrue one trials
  pub from : X.records ≡ map tried trials ++ rest
  pub to : Y.records ≡ before_fault trials
  pub ends : EndsBy (first_fault trials) rest X.ending Y.ending

pub record Unordered (one : Record → Outcome → Type 0) (X Y : Stream) : Type 0 where
  pub trials : List Trial
  pub order : List Trial
  pub rest : List Record
  pub all : AllTrue one trials
  pub reordered : IsPermutation trials order
  pub from : X.records ≡ map tried trials ++ rest
  pub to : Y.records ≡ goods order
  pub ends : EndsBy (first_fault trials) rest X.ending Y.ending

abbrev pub end_by : Option Fault → Ending → Ending
end_by (Some f) e = failed f
end_by None e = e

abbrev pub trial_of : (Record → Outcome) → Record → Trial
trial_of f x = (x, f x)

abbrev pub pointwise : (Record → Outcome) → Stream → Stream
pointwise f X =
    let trials = map (trial_of f) X.records in stream (before_fault trials) (end_by (first_fault trials) X.ending)

-- ---- laws of a stage's relation

-- a stream that ends so may be the beginning of another
abbrev pub IsOpen : Ending → Type 0
IsOpen unread = ⊤
IsOpen cut = ⊤
IsOpen done = ⊥
IsOpen (failed f) = ⊥

-- What was made of the beginning of a stream stands at the front of what is made of the whole, a fault that was met
-- on the beginning is met on the whole, and the output ends as the input or with a fault.
pub record PrefixLaw (R : Stream → Stream → Type 0) : Type 0 where
  pub goes_on : (X more Y : List Record) (stop e : Ending) → IsOpen stop → R (stream X stop) (stream Y stop)
      → (rest : List Record) × (end : Ending) × R (stream (X ++ more) e) (stream (Y ++ rest) end)
  pub keeps : (X more Y : List Record) (f : Fault) (stop e : Ending) → IsOpen stop → R (stream X stop) (stream Y (failed f)) → R (stream (X ++ more) e) (stream Y (failed f))
  pub ends : (X Y : Stream) → R X Y → (Y.ending ≡ X.ending) ⊎ ((f : Fault) × (Y.ending ≡ failed f))

-- the relation is the function
abbrev pub IsFunction : (Stream → Stream → Type 0) → (Stream → Stream) → Type 0
IsFunction R f = (X Y : Stream) → (R X Y → Y ≡ f X) × R X (f X)

-- ---- outputs that were given up

abbrev pub SoundBy : Ending → (Stream → Stream → Type 0) → Stream → List Record → Type 0
SoundBy done R X Y = R X (stream Y done)
SoundBy (failed f) R X Y = R X (stream Y (failed f))
SoundBy unread R X Y = R X (stream Y unread)
SoundBy cut R X Y = (rest : List Record) × (end : Ending) × R X (stream (Y ++ rest) end)

-- the output, or where it is cut the beginning of one
abbrev pub Sound : (Stream → Stream → Type 0) → Stream → Stream → Type 0
Sound R X Y = SoundBy Y.ending R X Y.records
