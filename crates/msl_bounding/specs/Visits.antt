-- What visits of nodes, one after the other, leave of the best so far.
use Rattle.std.specs.Prelude.{ℕ, suc, ◌-◌, ℤ, List, [], ◌∷◌, ◌++◌, length, map, Option, Some, Result, Ok, Err}
use Rattle.msl_base.specs.Streams.{Record, Outcome}
use Rattle.msl_base.specs.declared.fault.Fault.{Fault}
use Rattle.msl_lists.specs.Whole.{◌>>=◌}
use Rattle.msl_program.specs.Along.{Path, most_levels}
use Rattle.msl_program.specs.Searches.{Kind, Node, node, Visit, all_from, better, children_of, first_best, own, preorder_by}
use Rattle.msl_bounding.specs.declared.bounding.Bounding.{Bounding}

abbrev pub Best : Type 0
Best = Option (ℤ × Record)

module _ (s : Bounding) where
  -- the better of the best so far and one more node
  abbrev pub better_by : Best → Record → Kind → Best
  better_by best y k = better s.calls s.spec.now s.stage best y k

  -- the best after these visits, or the first fault
  abbrev pub best_after : Best → List Visit → Result Best Fault
  best_after best [] = Ok best
  best_after best ((y, Err f) ∷ more) = Err f
  best_after best ((y, Ok k) ∷ more) = best_after (better_by best y k) more

  -- the answer where no visit is left
  abbrev pub answer_of : Best → Outcome
  answer_of best = first_best s.calls s.spec.now s.stage best []

  abbrev pub own_by : Path → Node → Result Kind Fault
  own_by q p = own s.calls s.spec.now s.stage q p

  -- the visits of a node at q and of all below it
  abbrev pub visits : Path → Node → List Visit
  visits q p = preorder_by own_by (suc (most_levels - length q)) q p

  -- the visits of the children of a node at q from number k on, and of all below them
  abbrev pub visits_from : Path → ℤ → ℕ → List Record → List Visit
  visits_from q low k xs = all_from (λ j. preorder_by own_by (most_levels - length q) (q ++ j ∷ [])) k (map (λ y. node y (Some low)) xs)

  -- the best after all below a node at q with n children
  abbrev pub best_below : Best → Path → Record → ℤ → ℕ → Result Best Fault
  best_below best q x low n = children_of s.calls s.spec.now s.stage x n >>= λ xs. best_after best (visits_from q low 0 xs)
