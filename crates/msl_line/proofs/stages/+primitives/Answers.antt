use Rattle.std.proofs.Common.{List, arith, ap, sym, ◌∙◌}
use Rattle.msl_program.specs.declared.stage.Stage.{Stage}
use Rattle.msl_program.specs.Stages.{row, primitives_of, primitives_in}
use Rattle.msl_program.specs.ScriptPromise.{height, greatest_height}
use Rattle.msl_program.proofs.Needs.{height-farm, height-pipe, next}
use Rattle.msl_line.proofs.Parts.{primitives-farm, primitives-pipe, none_primitive}
use Rattle.msl_line.proofs.stages.+primitives.Goals as goal

pub primitives-requires : goal.primitives-requires
primitives-requires t c =
    let n = c.in-Farm.field-0 in
    let st = c.in-Farm.stage in (
      omega (arith, ap height c.in-Farm.is, height-farm n st, ap height c.get.ensures),
      omega (arith, c.requires, ap primitives_of c.in-Farm.is, primitives-farm n st, ap primitives_of c.get.ensures),
    )

pub returns-in-Farm : goal.returns-in-Farm
returns-in-Farm t c =
    c.primitives.ensures ∙ ap primitives_of c.get.ensures ∙ sym (ap primitives_of c.in-Farm.is ∙ primitives-farm c.in-Farm.field-0 c.in-Farm.stage)

pub loop-stage-init : goal.loop-stage-init
loop-stage-init t c =
    let same = c.as_slice-stage-items.ensures in
    record {
      lower = omega (arith, ap height c.in-Pipe.is, height-pipe c.in-Pipe.stages, ap (λ (sts : List Stage). greatest_height (row sts)) same);
      all = omega (arith, ap primitives_of c.in-Pipe.is, primitives-pipe c.in-Pipe.stages, ap (λ (sts : List Stage). primitives_in (row sts)) same);
    }

pub primitives-all-requires : goal.primitives-all-requires
primitives-all-requires t c =
    let is = next c.as_slice-stage-items.result.now c.loop-stage.stage-index c.stage-item.result c.loop-stage-test.true c.stage-item.is in (
      omega (arith, c.loop-stage.invariant.lower, ap (λ (sts : List Stage). greatest_height (row sts)) is),
      omega (arith, c.requires, c.loop-stage.invariant.all, ap (λ (sts : List Stage). primitives_in (row sts)) is),
    )

pub overflow_add-all : goal.overflow_add-all
overflow_add-all t c =
    let is = next c.as_slice-stage-items.result.now c.loop-stage.stage-index c.stage-item.result c.loop-stage-test.true c.stage-item.is in
    omega (arith, ap (λ (sts : List Stage). primitives_in (row sts)) is)

pub loop-stage-preserved : goal.loop-stage-preserved
loop-stage-preserved t c =
    let is = next c.as_slice-stage-items.result.now c.loop-stage.stage-index c.stage-item.result c.loop-stage-test.true c.stage-item.is in
    record {
      lower = omega (arith, c.loop-stage.invariant.lower, ap (λ (sts : List Stage). greatest_height (row sts)) is);
      all = omega (arith, c.loop-stage.invariant.all, ap (λ (sts : List Stage). primitives_in (row sts)) is);
    }

pub returns-after-loop-stage : goal.returns-after-loop-stage
returns-after-loop-stage t c =
    omega (arith, c.loop-stage.invariant.all, none_primitive c.as_slice-stage-items.result.now c.loop-stage.stage-index c.loop-stage-test.false)
