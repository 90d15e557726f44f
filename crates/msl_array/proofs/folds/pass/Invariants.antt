use Rattle.std.proofs.Common.{◌≡◌, drop}
use Rattle.msl_lists.specs.Whole.{foldl_all, function_of}
use Rattle.msl_array.proofs.folds.pass.Given as goal

-- what is left makes the answer
abbrev pub invariant-loop-x : goal.invariant-loop-x
invariant-loop-x l = foldl_all (function_of l.u) l.stage l.value (drop l.x-index l.xs) ≡ foldl_all (function_of l.u) l.stage l.first l.xs
