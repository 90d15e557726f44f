use Rattle.std.proofs.Common.{take, All, FitsSigned, w64}
use Rattle.msl_local.proofs.parts.part_fits.Given as goal

abbrev pub invariant-loop-x : goal.invariant-loop-x
invariant-loop-x l = All (FitsSigned w64) (take l.x-index l.part)
