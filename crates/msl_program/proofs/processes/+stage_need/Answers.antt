use Rattle.std.proofs.Common.{◌*◌, List, arith, ap, sym, ◌∙◌, subst}
use Rattle.msl_program.specs.declared.stage.Stage.{Stage}
use Rattle.msl_program.specs.Stages.{row}
use Rattle.msl_program.specs.ScriptPromise.{IsSized, AreSized, height, greatest_height}
use Rattle.msl_program.specs.Need.{need_of, need_of_all}
use Rattle.msl_program.proofs.Needs.{need-farm, sized-farm, height-farm, part_of_farm, need-pipe, sized-pipe, height-pipe, next, none_left}
use Rattle.msl_program.proofs.processes.+stage_need.Goals as goal

-- ---- a farm

pub stage_need-requires : goal.stage_need-requires
stage_need-requires t c =
    let n = c.in-Farm.workers in
    let st = c.in-Farm.stage in
    let sized = sized-farm n st (subst IsSized c.in-Farm.is c.requires.sized) in (
      omega (arith, ap height c.in-Farm.is, height-farm n st, ap height c.get.ensures),
      (
        subst IsSized (sym c.get.ensures) sized.1,
        omega (arith, ap need_of c.in-Farm.is, part_of_farm n st sized.0, ap need_of c.get.ensures),
      ),
    )

-- what the workers need is what the farm needs
pub returns-in-Farm : goal.returns-in-Farm
returns-in-Farm t c =
    let one = c.stage_need.ensures ∙ ap need_of c.get.ensures in
    (λ i. c.from.ensures i * one i) ∙ sym (ap need_of c.in-Farm.is ∙ need-farm c.in-Farm.workers c.in-Farm.stage)

pub overflow_mul-result : goal.overflow_mul-result
overflow_mul-result t c =
    let one = c.stage_need.ensures ∙ ap need_of c.get.ensures in
    let all = (λ i. c.from.ensures i * one i) ∙ sym (ap need_of c.in-Farm.is ∙ need-farm c.in-Farm.workers c.in-Farm.stage) in
    omega (arith, all)

-- ---- a pipe

pub loop-stage-init : goal.loop-stage-init
loop-stage-init t c =
    let same = c.as_slice-stage-items.ensures in
    let sized = sized-pipe c.in-Pipe.stages (subst IsSized c.in-Pipe.is c.requires.sized) in
    record {
      sized = subst (λ (sts : List Stage). AreSized (row sts)) (sym same) sized;
      lower = omega (arith, ap height c.in-Pipe.is, height-pipe c.in-Pipe.stages, ap (λ (sts : List Stage). greatest_height (row sts)) same);
      all = omega (arith, ap need_of c.in-Pipe.is, need-pipe c.in-Pipe.stages, ap (λ (sts : List Stage). need_of_all (row sts)) same);
    }

pub stage_need-all-requires : goal.stage_need-all-requires
stage_need-all-requires t c =
    let is = next c.as_slice-stage-items.result.now c.loop-stage.stage-index c.stage-item.result c.loop-stage-test.true c.stage-item.is in
    let sized = subst (λ (sts : List Stage). AreSized (row sts)) is c.loop-stage.invariant.sized in (
      omega (arith, ap (λ (sts : List Stage). greatest_height (row sts)) is),
      (sized.0, omega (arith, ap (λ (sts : List Stage). need_of_all (row sts)) is)),
    )

pub overflow_add-all : goal.overflow_add-all
overflow_add-all t c =
    let is = next c.as_slice-stage-items.result.now c.loop-stage.stage-index c.stage-item.result c.loop-stage-test.true c.stage-item.is in
    omega (arith, ap (λ (sts : List Stage). need_of_all (row sts)) is)

pub loop-stage-preserved : goal.loop-stage-preserved
loop-stage-preserved t c =
    let is = next c.as_slice-stage-items.result.now c.loop-stage.stage-index c.stage-item.result c.loop-stage-test.true c.stage-item.is in
    let sized = subst (λ (sts : List Stage). AreSized (row sts)) is c.loop-stage.invariant.sized in
    record {
      sized = sized.1;
      lower = omega (arith, ap (λ (sts : List Stage). greatest_height (row sts)) is);
      all = omega (arith, ap (λ (sts : List Stage). need_of_all (row sts)) is);
    }

pub returns-after-loop-stage : goal.returns-after-loop-stage
returns-after-loop-stage t c =
    omega (arith, none_left c.as_slice-stage-items.result.now c.loop-stage.stage-index c.loop-stage-test.false)
