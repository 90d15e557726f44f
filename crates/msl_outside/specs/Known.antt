-- What is known of an object that may tell something, as its bytes.
use Rattle.std.specs.Prelude.{Option, Some, None, ⊤}

-- Where it is told before, it is told afterwards too, and this holds of both.
abbrev pub Told : {T : Type 0} → Option T → Option T → (T → T → Type 0) → Type 0
Told None new P = ⊤
Told (Some old) None P = ⊥
Told (Some old) (Some new) P = P old new
