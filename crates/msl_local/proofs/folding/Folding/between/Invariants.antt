use Rattle.std.proofs.Common.{◌≡◌, ◌≤◌}
use Rattle.msl_ops.specs.Meaning.{fold_of}
use Rattle.msl_local.specs.Parts.{flat, between}
use Rattle.msl_local.proofs.folding.Folding.between.Given as goal

abbrev pub invariant-loop-m : goal.invariant-loop-m
invariant-loop-m l = record {
  total : l.total ≡ fold_of l.self.op.kind l.self.op.modulus (flat (between l.self.parts.now l.from l.m));
  order : l.from ≤ l.m;
}
