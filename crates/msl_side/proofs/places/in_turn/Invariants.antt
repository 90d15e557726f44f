use Rattle.std.proofs.Common.{◌≡◌, ◌<◌, ◌≤◌, ℕ, vec_capacity, length, slice_index_or, Ok}
use Rattle.msl_side.proofs.places.in_turn.Given as goal

abbrev pub invariant-loop-i : goal.invariant-loop-i
invariant-loop-i g l =
    (length l.all.items ≡ l.i) × (l.i ≤ l.n) × (l.n ≤ vec_capacity l.all) × (vec_capacity l.all ≡ vec_capacity l.fn.room)
    × ((k : ℕ) (d : _) → k < l.i → goal.F-post g l.f k (Ok (slice_index_or l.all.items k d)))
