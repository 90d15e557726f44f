-- Runs of member numbers, as contracts see groups.
use Rattle.std.specs.Prelude.{◌≡◌, ℕ, ◌+◌, ◌-◌, ◌<◌, ◌==◌, List, length, slice_index_or, Contains, Result, Ok, Err, if◌then◌else◌}
use Rattle.std.specs.List.{range_with_len}

-- the first member, and how many there are
pub record Span : Type 0 where
  pub first : ℕ
  pub count : ℕ

abbrev pub span : ℕ → ℕ → Span
span first count = record { first = first; count = count }

-- the members in order: the first, the one after it, and so on
abbrev pub members : Span → List ℕ
members g = range_with_len g.first g.count

-- the first k members, and the rest
abbrev pub split : Span → ℕ → Span × Span
split g k = (span g.first k, span (g.first + k) (g.count - k))

-- both as one where the next begins where g ends, and else both as they are
abbrev pub merged : Span → Span → Result Span (Span × Span)
merged g next = if next.first == g.first + g.count then Ok (span g.first (g.count + next.count)) else Err (g, next)

-- no number is in both lists
abbrev pub AreApart : List ℕ → List ℕ → Type 0
AreApart xs ys = (i : ℕ) → Contains xs i → Contains ys i → ⊥

-- no number is at two places
abbrev pub IsOnce : List ℕ → Type 0
IsOnce xs = (j k : ℕ) → j < length xs → k < length xs → slice_index_or xs j 0 ≡ slice_index_or xs k 0 → j ≡ k
