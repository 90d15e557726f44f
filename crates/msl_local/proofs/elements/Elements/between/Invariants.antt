use Rattle.std.proofs.Common.{◌≡◌, ◌≤◌, ◌-◌, ◌+◌, vec_capacity, length, Ok}
use Rattle.msl_local.specs.Cells.{cells}
use Rattle.msl_local.specs.Outcomes.{part}
use Rattle.msl_local.specs.Parts.{between, flat, lengths, start}
use Rattle.msl_local.specs.Places.{parts_of}
use Rattle.msl_local.proofs.elements.Elements.between.Given as goal

abbrev pub invariant-loop-m : goal.invariant-loop-m
invariant-loop-m l = let a = parts_of l.self.inputs in record {
  so_far : part (cells l.self) (start a l.from) (start a l.m - start a l.from) ≡ Ok (flat l.out.items);
  alike : lengths l.out.items ≡ lengths (between a l.from l.m);
  first : l.first ≡ start a l.m;
  count : length l.out.items + l.from ≡ l.m;
  room : l.to - l.from ≤ vec_capacity l.out;
  order : (l.from ≤ l.m) × (l.m ≤ l.to);
}
