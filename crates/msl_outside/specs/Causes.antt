-- When a call may say that the outside failed.
use Rattle.std.specs.Prelude.{ℕ, ◌≡◌, ◌+◌, ◌-◌, ◌^◌, ◌≤◌, min, max, Result, Ok, Err}

-- a count of 64 bits didn't fall, and it rose or stands at its type's end
abbrev pub Rose : ℕ → ℕ → Type 0
Rose before now = max before (min (before + 1) (2 ^ 64 - 1)) ≤ now

-- the count rose where the call failed, and is as before where it did not
abbrev pub HasCause : {T E : Type 0} → ℕ → ℕ → Result T E → Type 0
HasCause before now (Ok x) = now ≡ before
HasCause before now (Err e) = Rose before now

-- the same of a count that rises by one
abbrev pub Counts : {T E : Type 0} → ℕ → ℕ → Result T E → Type 0
Counts before now (Ok x) = now ≡ before
Counts before now (Err e) = now ≡ min (before + 1) (2 ^ 64 - 1)
