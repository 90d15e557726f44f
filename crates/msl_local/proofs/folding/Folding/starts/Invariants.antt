use Rattle.std.proofs.Common.{◌≡◌, ◌<◌, ◌≤◌, length, pos, slice_index_or, vec_capacity}
use Rattle.msl_ops.specs.Meaning.{fold_of}
use Rattle.msl_local.specs.Folds.{before}
use Rattle.msl_local.specs.Parts.{flat}
use Rattle.msl_local.proofs.folding.Folding.starts.Given as goal

abbrev pub invariant-loop-h : goal.invariant-loop-h
invariant-loop-h l = record {
  total : l.total ≡ fold_of l.self.op.kind l.self.op.modulus (flat (before l.self.parts.now l.hands l.h));
  count : length l.starts.items ≡ l.h;
  room : l.hands ≤ vec_capacity l.starts;
  so_far : (k : _) → k < l.h → slice_index_or l.starts.items k (pos 0) ≡ fold_of l.self.op.kind l.self.op.modulus (flat (before l.self.parts.now l.hands k));
}
