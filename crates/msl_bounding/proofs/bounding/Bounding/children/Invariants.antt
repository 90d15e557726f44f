use Rattle.std.proofs.Common.{◌≡◌, List, length, take, All, ℤ, Ok}
use Rattle.msl_program.specs.Searches.{children_of}
use Rattle.msl_bounding.proofs.bounding.Bounding.children.Given as goal

abbrev pub invariant-loop-k : goal.invariant-loop-k
invariant-loop-k l = record {
  same : l.self ≡ l.fn.self;
  room : length l.room ≡ length l.fn.room;
  made : children_of l.fn.self.calls l.fn.self.spec.now l.fn.self.stage l.x l.k ≡ Ok (take l.k l.room);
  long : All (λ (y : List ℤ). length y ≡ length l.x) (take l.k l.room);
}
