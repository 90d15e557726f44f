-- What becomes of a node that is visited, of what became of its tests. And what a better best leaves true.
use Rattle.std.proofs.Common.{◌≡◌, ◌<◌, ◌⊎◌, ℕ, Bool, true, false, ℤ, List, [], ◌∷◌, length, Option, Some, None, Result, Ok, Err, All, inl, inr, refl, sym, ap, ◌∙◌, subst, arith}
use Rattle.std.specs.Prelude.{◌≤ℤ◌, int_lt}
use Rattle.std.specs.Result.{IsErrAnd}
use Rattle.std.proofs.lemmas.List.Elements.{All-cons, All-weaker}
use Rattle.msl_base.specs.Covers.{Split}
use Rattle.msl_base.specs.Streams.{Record}
use Rattle.msl_base.specs.declared.answer.Halt.{Halt}
use Rattle.msl_base.specs.declared.answer.Halt.TheVariants as halt
use Rattle.msl_base.specs.declared.fault.Fault.{Fault}
use Rattle.msl_base.specs.declared.fault.Fault.TheVariants.{BoundBroken}
use Rattle.msl_bounding.specs.Nodes.{HasRoom, Tells, Leaves, low_of, found}
use Rattle.msl_bounding.specs.declared.bounding.Found.TheVariants.{Solution, Children}
use Rattle.msl_bounding.proofs.Nodes.{own_solution, own_inner, children_none}
use Rattle.msl_fun.specs.declared.funs.Fun.{Fun}
use Rattle.msl_program.specs.Along.{Path}
use Rattle.msl_program.specs.Searches.{solution, inner, Node, bound, children_of, is_below, own, reached, refused_if, IsSolution}
use Rattle.msl_program.specs.declared.script.BnbSpec.{BnbSpec}
use Rattle.msl_pruning.specs.Pruned.{Best, better_by, if_less, HasBoundFor, IsDropped, IsDone, IsFound, IsShut, HasPruned}
use Rattle.msl_pruning.specs.Visiting.{IsTaken, IsLeft, IsBranched, IsVisited}
use Rattle.msl_pruning.specs.declared.pruning.Branching.{Branching}
use Rattle.msl_stage.specs.Answers.{made_by}
use Rattle.msl_pruning.proofs.Below.{bind_ok, refused_ok, ok_one, up, same, lower, not_lower, droppable_by, still_droppable}

module _ (funs : List Fun) (b : BnbSpec) (stage : ℕ) where
  -- ---- a better best

  low_if : (t : Bool) (v w : ℤ) (y : Record) (best : ℤ × Record) → int_lt v best.0 ≡ t → best.0 ≤ℤ w → HasBoundFor (if_less t v y best) w
  low_if true v w y best is less = up v best.0 w (lower v best.0 is) less
  low_if false v w y best is less = less

  still_low : (old : Best) (v w : ℤ) (y : Record) → HasBoundFor old w → HasBoundFor (better_by old v y) w
  still_low None v w y h = absurd h
  still_low (Some best) v w y h = low_if (int_lt v best.0) v w y best refl h

  now_if : (t : Bool) (v : ℤ) (y : Record) (best : ℤ × Record) → int_lt v best.0 ≡ t → HasBoundFor (if_less t v y best) v
  now_if true v y best is = same v
  now_if false v y best is = not_lower v best.0 is

  low_now : (old : Best) (v : ℤ) (y : Record) → HasBoundFor (better_by old v y) v
  low_now None v y = same v
  low_now (Some best) v y = now_if (int_lt v best.0) v y best refl

  dropped_if : (t : Bool) (v : ℤ) (y : Record) (best : ℤ × Record) (p : Node) → int_lt v best.0 ≡ t → IsDropped funs b stage (Some best) p → IsDropped funs b stage (if_less t v y best) p
  dropped_if true v y best p is h = still_droppable funs b stage v best.0 p (lower v best.0 is) h
  dropped_if false v y best p is h = h

  still_dropped : (old : Best) (v : ℤ) (y : Record) (p : Node) → IsDropped funs b stage old p → IsDropped funs b stage (better_by old v y) p
  still_dropped None v y p h = absurd h
  still_dropped (Some best) v y p h = dropped_if (int_lt v best.0) v y best p refl h

  still_done : (old : Best) (v : ℤ) (y : Record) (q : Path) (p : Node) → IsDone funs b stage old q p → IsDone funs b stage (better_by old v y) q p
  still_done old v y q p (inl (w, is, low)) = inl (w, is, still_low old v w y low)
  still_done old v y q p (inr (inl none)) = inr (inl none)
  still_done old v y q p (inr (inr dropped)) = inr (inr (still_dropped old v y p dropped))

  -- ---- one node

  -- its bound is no less than the value of the best
  pub is_dropped : (best : Best) (q : Path) (p : Node) (low : ℤ) → low_of funs b stage q p ≡ Ok low → HasBoundFor best low → IsDropped funs b stage best p
  is_dropped None q p low is h = absurd h
  is_dropped (Some best) q p low is h =
      let bounded = bind_ok (bound funs b stage p.numbers) (λ l. refused_if (is_below l p.above) (BoundBroken stage q) (Ok l)) low is in
      let climbs = refused_ok (is_below bounded.0 p.above) (BoundBroken stage q) (Ok bounded.0) low bounded.2 in
      let same_low : bounded.0 ≡ low = ok_one climbs.1 in
      droppable_by funs b stage best.0 low p (bounded.1 ∙ ap Ok same_low) (subst (λ z. is_below z p.above ≡ false) same_low climbs.0) h

  module _ (q : Path) (p : Node) where
    -- a fault is handed on
    module _ {A B E : Type 0} (want : Result A Fault) (told : B) (on : (f : Fault) → want ≡ Err f → own funs b stage q p ≡ Err f) (old new : Best) (room : List Record) (Q : E → Type 0) where
      pub told_on : (r : Result (Option Branching) E) (why : Halt) → IsErrAnd r Q → Tells {B = B} want (Err told) why → IsVisited funs b stage q p old new room (made_by r why)
      told_on (Ok d) why e h = absurd e
      told_on (Err c) (halt.Fault f) e h = on f h
      told_on (Err c) halt.NoMemory e h = absurd h

      pub left_on : (G : Type 0) (some : A) (r : Result (Option Branching) E) (why : Halt) → IsErrAnd r Q → Leaves {B = G} want some (Err told) why → IsVisited funs b stage q p old new room (made_by r why)
      left_on G some (Ok d) why e h = absurd e
      left_on G some (Err c) (halt.Fault f) e h = on f h
      left_on G some (Err c) halt.NoMemory e h = absurd h

    module _ (low : ℤ) (is_low : low_of funs b stage q p ≡ Ok low) where
      pub is_taken : (v : ℤ) (old new : Best) → found funs b stage q p.numbers low ≡ Ok (Solution v) → new ≡ better_by old v p.numbers → IsTaken funs b stage q p old new
      is_taken v old new is best = record { value = v; is_solution = own_solution funs b stage q p low is_low v is; best = best }

      pub is_barren : (old new : Best) → found funs b stage q p.numbers low ≡ Ok (Children 0) → new ≡ old → IsLeft funs b stage q p old new
      is_barren old new is best = record { why = inr (low, own_inner funs b stage q p low is_low 0 is [] (children_none funs b stage p.numbers)); best = best }

      pub is_branched : (n : ℕ) (xs : List Record) (old new : Best) → found funs b stage q p.numbers low ≡ Ok (Children n) → HasRoom q (Children n) → 0 < n → children_of funs b stage p.numbers n ≡ Ok xs → length xs ≡ n
          → All (λ (x : Record). length x ≡ length p.numbers) xs → new ≡ old → IsBranched funs b stage q p old new low xs
      is_branched n xs old new is room some all count long best = record {
        is_inner = own_inner funs b stage q p low is_low n is xs all;
        long = long;
        some = omega (arith, some, count);
        few = omega (arith, room.0, count);
        deep = room.1 some;
        best = best;
      }

      pub is_left : (old new : Best) → HasBoundFor old low → new ≡ old → IsLeft funs b stage q p old new
      is_left old new h best = record { why = inl (is_dropped old q p low is_low h); best = best }

  -- ---- the paths

  module _ (root : Record) where
    found_if : (t : Bool) (v : ℤ) (y : Record) (best : ℤ × Record) → IsFound funs b stage root (Some best) → (q : Path) × IsSolution funs b stage root q y v → IsFound funs b stage root (if_less t v y best)
    found_if true v y best h more = more
    found_if false v y best h more = h

    found_now : (old : Best) (v : ℤ) (y : Record) → IsFound funs b stage root old → (q : Path) × IsSolution funs b stage root q y v → IsFound funs b stage root (better_by old v y)
    found_now None v y h more = more
    found_now (Some best) v y h more = found_if (int_lt v best.0) v y best h more

    module _ (q : Path) (p : Node) (at : reached funs b stage root q ≡ Some p) (splits : List Split) (shut : List (List ℕ)) where
      taken : (old : Best) (v : ℤ) → own funs b stage q p ≡ Ok (solution v) → HasPruned funs b stage root old splits shut → HasPruned funs b stage root (better_by old v p.numbers) splits (q ∷ shut)
      taken old v is h =
          let new = better_by old v p.numbers in
          record {
            is_found = found_now old v p.numbers h.is_found (q, (p, at, (refl, is)));
            are_split = h.are_split;
            are_shut = All-cons (IsShut funs b stage root new) q shut (p, at, inl (v, is, low_now old v p.numbers))
                (All-weaker (IsShut funs b stage root old) (IsShut funs b stage root new) (λ r s. (s.0, s.1, still_done old v p.numbers r s.0 s.2)) shut h.are_shut);
          }

      pub has_taken : (old new : Best) → IsTaken funs b stage q p old new → HasPruned funs b stage root old splits shut → HasPruned funs b stage root new splits (q ∷ shut)
      has_taken old new t h = subst (λ (best : Best). HasPruned funs b stage root best splits (q ∷ shut)) (sym t.best) (taken old t.value t.is_solution h)

      left : (old : Best) → IsDropped funs b stage old p ⊎ ((low : ℤ) × (own funs b stage q p ≡ Ok (inner low []))) → IsDone funs b stage old q p
      left old (inl dropped) = inr (inr dropped)
      left old (inr none) = inr (inl none)

      pub has_left : (old new : Best) → IsLeft funs b stage q p old new → HasPruned funs b stage root old splits shut → HasPruned funs b stage root new splits (q ∷ shut)
      has_left old new t h = subst (λ (best : Best). HasPruned funs b stage root best splits (q ∷ shut)) (sym t.best)
          (record { is_found = h.is_found; are_split = h.are_split; are_shut = All-cons (IsShut funs b stage root old) q shut (p, at, left old t.why) h.are_shut })
