use Rattle.std.proofs.Common.{◌≡◌, ◌++◌, [], ◌∷◌, Ok, length, slice_index_or, ℕ, ◌-◌, ◌*◌, ◌≤◌, take}
use Rattle.msl_base.specs.Streams.{Outcome}
use Rattle.msl_division.specs.Steps.{AreWide}
use Rattle.msl_fun.specs.Meaning.{results_of}
use Rattle.msl_lists.specs.Whole.{each}
use Rattle.msl_program.specs.Calls.{run}
use Rattle.msl_program.specs.Divide.{dc}
use Rattle.msl_division.proofs.division.Division.+value.Given as goal

abbrev pub decreases-conquer : goal.decreases-conquer
decreases-conquer l = 128 - 2 * length l.path

abbrev pub decreases-value : goal.decreases-value
decreases-value l = 129 - 2 * length l.path

abbrev pub invariant-conquer-loop-j : goal.invariant-conquer-loop-j
invariant-conquer-loop-j l =
    let here = l.initial.self in
    let value : ℕ → Outcome = λ j. dc here.calls here.spec.now here.stage (run here.calls here.stage here.spec.now.solve) (l.path ++ j ∷ []) (slice_index_or l.initial.parts j []) in
    record {
      same : l.self ≡ here;
      so_far : each l.j value ≡ Ok (take l.j l.parts);
      rest : (k : ℕ) → l.j ≤ k → slice_index_or l.parts k [] ≡ slice_index_or l.initial.parts k [];
      long : AreWide (results_of here.calls here.spec.now.solve) (take l.j l.parts);
    }
