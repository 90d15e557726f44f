-- A farm: its numbered records are dealt to its parts, each part works on its own ones in their order, and the results of
-- all parts are collected in any order. A part goes on behind a fault; the fault of the least number is the farm's.
use Rattle.std.specs.Prelude.{◌≡◌, ℕ, ◌≤◌, List, [], ◌∷◌, ◌++◌, map, flat_map, Option, Some, None, Ok, Err, All, Contains, IsPermutation, ⊤}
use Rattle.std.specs.List.{enumerate_from}
use Rattle.msl_base.specs.declared.fault.Fault.{Fault}
use Rattle.msl_base.specs.Streams.{Record, Outcome, Trial, AllTrue}

-- with the number of a record in its stream, from 0 on
abbrev pub Numbered : Type 0 → Type 0
Numbered A = ℕ × A

abbrev pub task_of : Numbered Trial → Numbered Record
task_of t = (t.0, t.1.0)

abbrev pub result_of : Numbered Trial → Numbered Outcome
result_of t = (t.0, t.1.1)

abbrev pub the_trial : Numbered Trial → Trial
the_trial t = t.1

-- ---- one part

-- the records that were dealt to it were tried in their order, but for the last ones, which are left; these are the results
abbrev pub Tried : (Record → Outcome → Type 0) → List (Numbered Record) → List (Numbered Outcome) → List (Numbered Record) → Type 0
Tried one dealt results left =
    (trials : List (Numbered Trial)) × (dealt ≡ map task_of trials ++ left) × (results ≡ map result_of trials) × AllTrue one (map the_trial trials)

-- a part of a farm: its worker, what was dealt to it, and what it gave
pub record Part (O : Type 0) : Type 0 where
  pub worker : O
  pub dealt : List (Numbered Record)
  pub results : List (Numbered Outcome)

-- it has tried all that was dealt to it
abbrev pub HasTriedAll : {O : Type 0} → (O → Record → Outcome → Type 0) → Part O → Type 0
HasTriedAll one p = Tried (one p.worker) p.dealt p.results []

-- it may have some left
abbrev pub HasTriedSome : {O : Type 0} → (O → Record → Outcome → Type 0) → Part O → Type 0
HasTriedSome one p = (left : List (Numbered Record)) × Tried (one p.worker) p.dealt p.results left

abbrev pub worker_of : {O : Type 0} → Part O → O
worker_of p = p.worker

abbrev pub dealt_to : {O : Type 0} → Part O → List (Numbered Record)
dealt_to p = p.dealt

abbrev pub results_of : {O : Type 0} → Part O → List (Numbered Outcome)
results_of p = p.results

-- ---- all parts

-- each record with its number went to some part, and to no other
abbrev pub IsDealt : {A : Type 0} → (A → List (Numbered Record)) → List A → List Record → Type 0
IsDealt dealt parts X = IsPermutation (enumerate_from 0 X) (flat_map dealt parts)

-- all results of the parts came, in some order
abbrev pub IsCollected : {A : Type 0} → (A → List (Numbered Outcome)) → List A → List (Numbered Outcome) → Type 0
IsCollected results parts came = IsPermutation (flat_map results parts) came

-- the records among the results
abbrev pub goods_of : List (Numbered Outcome) → List Record
goods_of [] = []
goods_of ((i, Ok y) ∷ came) = y ∷ goods_of came
goods_of ((i, Err f) ∷ came) = goods_of came

-- no fault has a lower number
abbrev pub NotBelow : ℕ → Numbered Outcome → Type 0
NotBelow n (i, Ok y) = ⊤
NotBelow n (i, Err f) = n ≤ i

abbrev pub IsGood : Numbered Outcome → Type 0
IsGood (i, Ok y) = ⊤
IsGood (i, Err f) = ⊥

-- the fault of the least number, where there is a fault
abbrev pub Least : Option (Numbered Fault) → List (Numbered Outcome) → Type 0
Least None came = All IsGood came
Least (Some (n, f)) came = Contains came (n, Err f) × All (NotBelow n) came

abbrev pub fault_of : Option (Numbered Fault) → Option Fault
fault_of None = None
fault_of (Some (n, f)) = Some f
