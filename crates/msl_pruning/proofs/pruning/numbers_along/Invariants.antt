use Rattle.std.proofs.Common.{◌≡◌, length, drop}
use Rattle.msl_program.specs.Along.{along}
use Rattle.msl_pruning.proofs.pruning.numbers_along.Given as goal

-- the numbers so far go on along the steps that are left
abbrev pub invariant-loop-step : goal.invariant-loop-step
invariant-loop-step l = record {
  same : l.nodes ≡ l.fn.nodes;
  long : length l.x ≡ length l.fn.root;
  rest : along l.nodes.calls l.nodes.stage l.nodes.spec.now.branch l.x (drop l.step-index l.steps) ≡ along l.nodes.calls l.nodes.stage l.nodes.spec.now.branch l.fn.root l.steps;
}
