use Rattle.std.proofs.Common.{◌≡◌, ◌<◌, ◌+◌, ◌-◌, drop}
use Rattle.msl_program.specs.Stages.{row, primitives_of, primitives_in}
use Rattle.msl_program.specs.ScriptPromise.{AreSized, height, greatest_height}
use Rattle.msl_plan.specs.Plans.{places_of, places_in, repeated}
use Rattle.msl_plan.specs.Planning.{with_places}
use Rattle.msl_plan.proofs.planner.Planner.+add_stage.Given as goal

abbrev pub decreases-add_stage : goal.decreases-add_stage
decreases-add_stage l = height l.stage.now

-- the teams so far, and the stages that are left
abbrev pub invariant-loop-stage : goal.invariant-loop-stage
invariant-loop-stage l = record {
  sized : AreSized (row (drop l.stage-index l.stage-items));
  lower : greatest_height (row (drop l.stage-index l.stage-items)) < height l.fn.stage;
  numbers : l.number + primitives_in (row (drop l.stage-index l.stage-items)) ≡ l.fn.number + primitives_of l.fn.stage;
  all : with_places l.self (places_in l.number (row (drop l.stage-index l.stage-items))) ≡ with_places l.fn.self (places_of l.fn.number l.fn.stage);
}

-- the teams so far, and the workers that are left
abbrev pub invariant-loop : goal.invariant-loop
invariant-loop l =
    with_places l.self (repeated (l.end - l.counter) (places_of l.number l.worker)) ≡ with_places l.fn.self (places_of l.fn.number l.fn.stage)
