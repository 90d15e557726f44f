use Rattle.std.proofs.Common.{◌≡◌, All, FitsSigned, take, w64}
use Rattle.msl_ops.specs.Lawful.{folded}
use Rattle.msl_local.proofs.folding.fold.Given as goal

abbrev pub invariant-loop-x : goal.invariant-loop-x
invariant-loop-x g l = record {
  total : l.total ≡ folded (g.L.Lawful.unit l.op) (g.L.Lawful.lift l.op) (g.L.Lawful.combine l.op) (take l.x-index l.xs);
  fit : All (FitsSigned w64) (take l.x-index l.xs);
}
