use Rattle.std.proofs.Common.{◌≡◌, drop}
use Rattle.msl_lists.specs.Whole.{foldl_all, function_of}
use Rattle.msl_local.specs.Parts.{flat}
use Rattle.msl_array.proofs.array.DistArray.foldl.Given as goal

-- what is left makes the answer
abbrev pub invariant-loop-part : goal.invariant-loop-part
invariant-loop-part g l = foldl_all (function_of l.u) l.at.stage l.value (flat (drop l.part-index l.part-items)) ≡ foldl_all (function_of l.u) l.at.stage l.first l.self.elements
