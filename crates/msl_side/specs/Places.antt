-- What work at several places gives. A function is seen as the relation between a place and what it may give there.
use Rattle.std.specs.Prelude.{◌≡◌, ◌<◌, ℕ, [], ◌∷◌, ◌++◌, length, slice_index_or, Result, Ok, Err}
use Rattle.std.specs.Global.{Vec}

-- the answers of all places below n in their order, or the refusal of the least that has one, behind places with answers
abbrev pub Led : {X E : Type 0} → (ℕ → Result X E → Type 0) → ℕ → Result (Vec X) E → Type 0
Led gives n (Ok v) = (length v.items ≡ n) × ((i : ℕ) (d : _) → i < n → gives i (Ok (slice_index_or v.items i d)))
Led gives n (Err e) = (i : ℕ) × (i < n) × gives i (Err e) × ((k : ℕ) → k < i → (y : _) × gives k (Ok y))

-- the list with one answer more, or the first refusal
abbrev pub Longer : {X E : Type 0} → Result (Vec X) E → Result X E → Result (Vec X) E → Type 0
Longer (Ok v) (Ok x) (Ok w) = w.items ≡ v.items ++ x ∷ []
Longer (Ok v) (Err e) (Err f) = f ≡ e
Longer (Err e) x (Err f) = f ≡ e
Longer _ _ _ = ⊥

-- the same answers, or the same refusal; how much room there is isn't looked at
abbrev pub AreAlike : {X E : Type 0} → Result (Vec X) E → Result (Vec X) E → Type 0
AreAlike (Ok v) (Ok w) = v.items ≡ w.items
AreAlike (Err e) (Err f) = e ≡ f
AreAlike _ _ = ⊥
