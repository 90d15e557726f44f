use Rattle.std.proofs.Common.{◌≡◌, ◌≤◌, ◌-◌, ◌+◌, vec_capacity, length, take, Ok}
use Rattle.msl_ops.specs.Meaning.{fold_of}
use Rattle.msl_local.specs.Folds.{scanned}
use Rattle.msl_local.specs.Outcomes.{part}
use Rattle.msl_local.specs.Parts.{between, flat, lengths, start}
use Rattle.msl_local.proofs.folding.Folding.scan_between.Given as goal

abbrev pub invariant-loop-m : goal.invariant-loop-m
invariant-loop-m l = let a = l.self.parts.now in record {
  total : l.total ≡ fold_of l.self.op.kind l.self.op.modulus (flat (take l.m a));
  so_far : part (scanned l.self.op l.self.stage (flat a)) (start a l.from) (start a l.m - start a l.from) ≡ Ok (flat l.out.items);
  alike : lengths l.out.items ≡ lengths (between a l.from l.m);
  count : length l.out.items + l.from ≡ l.m;
  room : l.to - l.from ≤ vec_capacity l.out;
  order : (l.from ≤ l.m) × (l.m ≤ l.to);
}
