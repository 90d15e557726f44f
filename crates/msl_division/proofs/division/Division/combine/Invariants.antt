use Rattle.std.proofs.Common.{◌≡◌, flat_map, ◌*◌, take}
use Rattle.msl_base.specs.Streams.{Record}
use Rattle.msl_fun.specs.Meaning.{results_of}
use Rattle.msl_division.proofs.division.Division.combine.Given as goal

abbrev pub invariant-loop-value : goal.invariant-loop-value
invariant-loop-value l = record {
  so_far : take l.n l.numbers ≡ flat_map (λ (r : Record). r) (take l.value-index l.values);
  long : l.n ≡ l.value-index * results_of l.self.calls l.self.spec.now.solve;
}
