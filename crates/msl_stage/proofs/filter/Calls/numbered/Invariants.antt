use Rattle.std.proofs.Common.{◌≡◌, ◌≤◌, length, vec_capacity, Ok}
use Rattle.msl_stage.specs.Answers.{records_of}
use Rattle.msl_stage.specs.Outputs.{numbered}
use Rattle.msl_stage.proofs.filter.Calls.numbered.Given as goal

abbrev pub invariant-loop-k : goal.invariant-loop-k
invariant-loop-k l = record {
  so_far : numbered l.self.funs.now l.self.stage l.f l.initial.scope l.k ≡ Ok (records_of l.outs.items);
  scope : l.scope ≡ l.initial.scope;
  count : length l.outs.items ≡ l.k;
  within : l.k ≤ l.n;
  room : l.n ≤ vec_capacity l.outs;
}
