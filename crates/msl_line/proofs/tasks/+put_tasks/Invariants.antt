use Rattle.std.proofs.Common.{◌≡◌, ◌<◌, ◌≤◌, ◌+◌, ◌++◌, true, drop}
use Rattle.msl_base.specs.declared.limits.TheConstants.{MOST_PRIMITIVES}
use Rattle.msl_program.specs.Stages.{row, primitives_in}
use Rattle.msl_program.specs.Fitting.{AllFit}
use Rattle.msl_program.specs.ScriptPromise.{AreSized, height, greatest_height}
use Rattle.msl_line.specs.Lines.{duties_of, duties_in}
use Rattle.msl_line.proofs.tasks.+put_tasks.Given as goal

abbrev pub decreases-put_tasks : goal.decreases-put_tasks
decreases-put_tasks g l = height l.stage.now

-- the tasks so far, and the stages that are left
abbrev pub invariant-loop-stage : goal.invariant-loop-stage
invariant-loop-stage g l = record {
  fits : AllFit l.fn.script true (row (drop l.stage-index l.stage-items));
  sized : AreSized (row (drop l.stage-index l.stage-items));
  few : l.number + primitives_in (row (drop l.stage-index l.stage-items)) ≤ MOST_PRIMITIVES + 1;
  lower : greatest_height (row (drop l.stage-index l.stage-items)) < height l.fn.stage;
  all : l.tasks.items ++ duties_in l.fn.how l.fn.script l.number (row (drop l.stage-index l.stage-items)) ≡ l.fn.tasks.items ++ duties_of l.fn.how l.fn.script l.fn.number l.fn.stage;
}
