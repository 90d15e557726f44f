use Rattle.std.proofs.Common.{◌≡◌}
use Rattle.msl_ops.specs.Meaning.{fold_of}
use Rattle.msl_local.specs.Folds.{before}
use Rattle.msl_local.specs.Parts.{flat}
use Rattle.msl_local.proofs.folding.Folding.of_hands.Given as goal

abbrev pub invariant-loop-h : goal.invariant-loop-h
invariant-loop-h l = l.total ≡ fold_of l.self.op.kind l.self.op.modulus (flat (before l.self.parts.now l.hands l.h))
