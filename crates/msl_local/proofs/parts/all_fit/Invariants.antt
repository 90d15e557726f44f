use Rattle.std.proofs.Common.{take, All, FitsSigned, w64}
use Rattle.msl_local.specs.Parts.{flat}
use Rattle.msl_local.proofs.parts.all_fit.Given as goal

abbrev pub invariant-loop-part : goal.invariant-loop-part
invariant-loop-part l = All (FitsSigned w64) (flat (take l.part-index l.parts))
