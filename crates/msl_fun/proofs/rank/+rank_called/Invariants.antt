use Rattle.std.proofs.Common.{◌≡◌, max, drop, slice_index_or}
use Rattle.msl_fun.specs.Checks.{rank_called, greatest}
use Rattle.msl_fun.proofs.rank.+rank_called.Given as goal

-- the greatest so far, and that of the expressions that are left
abbrev pub invariant-greatest_called-loop-e : goal.invariant-greatest_called-loop-e
invariant-greatest_called-loop-e l =
    let rest = greatest (rank_called (λ k. slice_index_or l.ranks k 0)) (drop l.e-index l.es) in
    max l.most rest ≡ greatest (rank_called (λ k. slice_index_or l.ranks k 0)) l.es
