-- Hands that work on parts: what each has, its folds, and where its scan goes on.
use Rattle.std.specs.Prelude.{◌≡◌, ℕ, ◌+◌, ◌-◌, ◌<◌, ℤ, pos, List, length, take, slice_index_or, Result, Ok, Err}
use Rattle.std.specs.List.{flat_map}
use Rattle.std.specs.Global.{Vec}
use Rattle.msl_base.specs.Blocks.{begin}
use Rattle.msl_base.specs.declared.fault.Fault.{Fault}
use Rattle.msl_ops.specs.declared.op.Op.{Op}
use Rattle.msl_ops.specs.Meaning.{fold_of}
use Rattle.msl_lists.specs.Whole.{each, fold_all}
use Rattle.msl_base.specs.declared.answer.Halt.{Halt}
use Rattle.msl_local.specs.Outcomes.{part, ComesLike, Stops}
use Rattle.msl_local.specs.Parts.{flat, lengths, between, start}

-- number i of a scan
abbrev pub scanned : Op → ℕ → List ℤ → ℕ → Result ℤ Fault
scanned op stage a i = fold_all op stage (take (i + 1) a)

-- The parts are shared out to so many hands, each of which has parts side by side: those of hand h, and those before.
abbrev pub held_by : List (Vec ℤ) → ℕ → ℕ → List (Vec ℤ)
held_by parts hands h = between parts (begin (length parts) hands h) (begin (length parts) hands (h + 1))

abbrev pub before : List (Vec ℤ) → ℕ → ℕ → List (Vec ℤ)
before parts hands h = take (begin (length parts) hands h) parts

-- number h is the fold of what hand h has
pub record AreFolds (op : Op) (parts : List (Vec ℤ)) (hands : ℕ) (folds : List ℤ) : Type 0 where
  pub long : length folds ≡ hands
  pub each : (h : ℕ) → h < hands → slice_index_or folds h (pos 0) ≡ fold_of op.kind op.modulus (flat (held_by parts hands h))

-- number h is the fold of what stands before it
pub record AreStarts (op : Op) (parts : List (Vec ℤ)) (hands : ℕ) (starts : List ℤ) : Type 0 where
  pub long : length starts ≡ hands
  pub each : (h : ℕ) → h < hands → slice_index_or starts h (pos 0) ≡ fold_of op.kind op.modulus (flat (before parts hands h))

-- what hand h makes of the outcomes at its places, in parts of the same lengths
abbrev pub HandComes : List (Vec ℤ) → (ℕ → Result ℤ Fault) → ℕ → ℕ → Result (Vec (Vec ℤ)) Halt → Type 0
HandComes parts f hands h r =
    let from = start parts (begin (length parts) hands h) in
    let to = start parts (begin (length parts) hands (h + 1)) in
    ComesLike (held_by parts hands h) (part f from (to - from)) r

-- the parts of all hands, one after the other
abbrev pub all_of : List (Vec (Vec ℤ)) → List (Vec ℤ)
all_of hands = flat_map (λ (v : Vec (Vec ℤ)). v.items) hands

-- all outcomes by hands, in parts of the same lengths, or the halt of all
abbrev pub HandsCome : List (Vec ℤ) → (ℕ → Result ℤ Fault) → Result (Vec (Vec (Vec ℤ))) Halt → Type 0
HandsCome parts f (Ok v) = (each (length (flat parts)) f ≡ Ok (flat (all_of v.items))) × (lengths (all_of v.items) ≡ lengths parts)
HandsCome parts f (Err h) = Stops (each (length (flat parts)) f) h

-- the parts of all hands, or what stopped them
abbrev pub IsJoined : Result (Vec (Vec (Vec ℤ))) Halt → Result (Vec (Vec ℤ)) Halt → Type 0
IsJoined (Ok v) (Ok w) = w.items ≡ all_of v.items
IsJoined (Err h) (Err k) = k ≡ h
IsJoined _ _ = ⊥

-- what hand h folds
abbrev pub FoldGives : Op → List (Vec ℤ) → ℕ → ℕ → Result ℤ Halt → Type 0
FoldGives op parts hands h (Ok z) = z ≡ fold_of op.kind op.modulus (flat (held_by parts hands h))
FoldGives op parts hands h (Err e) = ⊥
