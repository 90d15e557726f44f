use Rattle.std.proofs.Common.{◌≡◌, ◌<◌, ◌+◌, drop}
use Rattle.msl_program.specs.Stages.{row, primitives_of, primitives_in}
use Rattle.msl_program.specs.ScriptPromise.{height, greatest_height}
use Rattle.msl_line.proofs.stages.+primitives.Given as goal

abbrev pub decreases-primitives : goal.decreases-primitives
decreases-primitives l = height l.stage.now

-- the sum so far, and the stages that are left
abbrev pub invariant-loop-stage : goal.invariant-loop-stage
invariant-loop-stage l = record {
  lower : greatest_height (row (drop l.stage-index l.stage-items)) < height l.fn.stage;
  all : l.all + primitives_in (row (drop l.stage-index l.stage-items)) ≡ primitives_of l.fn.stage;
}
