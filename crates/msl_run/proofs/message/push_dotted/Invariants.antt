use Rattle.std.proofs.Common.{◌≡◌, ◌+◌, ◌*◌, ◌≤◌, ◌++◌, drop, length}
use Rattle.msl_run.specs.Messages.{dotted}
use Rattle.msl_run.proofs.message.push_dotted.Given as goal

abbrev pub invariant-loop-step : goal.invariant-loop-step
invariant-loop-step l = record {
  text : l.piece ++ dotted (drop l.step-index l.steps) ≡ l.fn.piece ++ dotted l.steps;
  room : length l.piece ≤ 62 + 3 * l.step-index;
}
