-- What becomes of a step that has a condition and takes memory.
use Rattle.std.specs.Prelude.{◌≡◌, Result, Ok, Err}
use Rattle.msl_core.specs.declared.event.Refusal.{Refusal}
use Rattle.msl_core.specs.declared.event.Refusal.TheVariants.{NotEnabled, NoMemory}

-- it is refused exactly where its condition fails; where memory runs out, all stays
abbrev pub Comes : {A R : Type 0} → Type 0 → A → A → A → Result R Refusal → Type 0
Comes can old next new (Ok _) = can × (new ≡ next)
Comes can old next new (Err NotEnabled) = ¬ can × (new ≡ old)
Comes can old next new (Err NoMemory) = can × (new ≡ old)
