-- What places of a list come to, as a whole and by parts.
use Rattle.std.specs.Prelude.{◌≡◌, ℕ, ◌+◌, ℤ, List, Result, Ok, Err, ⊤}
use Rattle.std.specs.Global.{Vec}
use Rattle.msl_base.specs.declared.fault.Fault.{Fault}
use Rattle.msl_base.specs.declared.answer.Halt.{Halt}
use Rattle.msl_base.specs.declared.answer.Halt.TheVariants as halt
use Rattle.msl_lists.specs.Whole.{each}
use Rattle.msl_local.specs.Parts.{flat, lengths}

-- what f gives at n places from this one on, or the fault of the least
abbrev pub part : (ℕ → Result ℤ Fault) → ℕ → ℕ → Result (List ℤ) Fault
part f from n = each n (λ i. f (from + i))

-- a halt is the fault that is wanted; where memory ran out it may come for anything
abbrev pub Stops : {A : Type 0} → Result A Fault → Halt → Type 0
Stops want (halt.Fault e) = want ≡ Err e
Stops want halt.NoMemory = ⊤

-- what is wanted, or its halt
abbrev pub ComesTo : {A : Type 0} → Result A Fault → Result A Halt → Type 0
ComesTo want (Ok x) = want ≡ Ok x
ComesTo want (Err h) = Stops want h

-- the list, or its halt
abbrev pub Comes : Result (List ℤ) Fault → Result (Vec ℤ) Halt → Type 0
Comes want (Ok v) = want ≡ Ok v.items
Comes want (Err h) = Stops want h

-- the list in parts as long as these, or its halt
abbrev pub ComesLike : List (Vec ℤ) → Result (List ℤ) Fault → Result (Vec (Vec ℤ)) Halt → Type 0
ComesLike like want (Ok v) = (want ≡ Ok (flat v.items)) × (lengths v.items ≡ lengths like)
ComesLike like want (Err h) = Stops want h
