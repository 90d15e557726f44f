use Rattle.std.proofs.Common.{◌≡◌, ◌<◌, ◌≤◌, ◌+◌, ◌++◌, false, drop}
use Rattle.msl_base.specs.declared.limits.TheConstants.{MOST_PRIMITIVES}
use Rattle.msl_program.specs.Stages.{row, primitives_in}
use Rattle.msl_program.specs.Fitting.{AllFit}
use Rattle.msl_program.specs.ScriptPromise.{AreSized, height, greatest_height}
use Rattle.msl_line.specs.Lines.{IsLineOf, IsLineThrough}
use Rattle.msl_line.proofs.Runs.{Steps}
use Rattle.msl_line.proofs.line.+put_steps.Given as goal

abbrev pub decreases-put_steps : goal.decreases-put_steps
decreases-put_steps g l = height l.stage.now

-- the steps so far, and the stages that are left
abbrev pub invariant-loop-stage : goal.invariant-loop-stage
invariant-loop-stage g l = record {
  fits : AllFit l.fn.script false (row (drop l.stage-index l.stage-items));
  sized : AreSized (row (drop l.stage-index l.stage-items));
  few : l.number + primitives_in (row (drop l.stage-index l.stage-items)) ≤ MOST_PRIMITIVES + 1;
  lower : greatest_height (row (drop l.stage-index l.stage-items)) < height l.fn.stage;
  all : (front : Steps) × (l.line.items ≡ l.fn.line.items ++ front) × ((back : Steps) → IsLineThrough l.fn.how l.fn.script l.number (row (drop l.stage-index l.stage-items)) back → IsLineOf l.fn.how l.fn.script l.fn.number l.fn.stage (front ++ back));
}
