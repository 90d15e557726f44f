use Rattle.std.proofs.Common.{◌≡◌, ◌+◌, ◌≤◌, length, take, Ok, vec_capacity}
use Rattle.msl_ops.specs.Meaning.{fold_of}
use Rattle.msl_local.specs.Outcomes.{part}
use Rattle.msl_local.specs.Parts.{flat, start}
use Rattle.msl_local.specs.Folds.{scanned}
use Rattle.msl_local.proofs.folding.Folding.scan_part.Given as goal

abbrev pub invariant-loop-k : goal.invariant-loop-k
invariant-loop-k l = let a = l.self.parts.now in record {
  total : l.total ≡ fold_of l.self.op.kind l.self.op.modulus (take (start a l.m + l.k) (flat a));
  so_far : part (scanned l.self.op l.self.stage (flat a)) (start a l.m) l.k ≡ Ok l.out.items;
  count : length l.out.items ≡ l.k;
  room : length l.xs ≤ vec_capacity l.out;
}
