use Rattle.std.proofs.Common.{◌≡◌, ◌<◌, ◌+◌, drop}
use Rattle.msl_program.specs.Stages.{row}
use Rattle.msl_program.specs.ScriptPromise.{AreSized, height, greatest_height}
use Rattle.msl_program.specs.Need.{need_of, need_of_all}
use Rattle.msl_program.proofs.processes.+stage_need.Given as goal

abbrev pub decreases-stage_need : goal.decreases-stage_need
decreases-stage_need l = height l.stage.now

-- the sum so far, and the stages that are left
abbrev pub invariant-loop-stage : goal.invariant-loop-stage
invariant-loop-stage l = record {
  sized : AreSized (row (drop l.stage-index l.stage-items));
  lower : greatest_height (row (drop l.stage-index l.stage-items)) < height l.fn.stage;
  all : l.all + need_of_all (row (drop l.stage-index l.stage-items)) ≡ need_of l.fn.stage;
}
