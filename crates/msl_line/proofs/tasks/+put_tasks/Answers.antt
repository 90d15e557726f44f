use Rattle.std.proofs.Common.{◌+◌, ◌++◌, true, List, drop, append_assoc, append-nil, arith, ap, sym, ◌∙◌, subst}
use Rattle.msl_program.specs.declared.stage.Stage.{Stage}
use Rattle.msl_program.specs.Stages.{row, primitives_of, primitives_in}
use Rattle.msl_program.specs.Fitting.{Fits, AllFit}
use Rattle.msl_program.specs.ScriptPromise.{IsSized, AreSized, height, greatest_height}
use Rattle.msl_program.proofs.Needs.{sized-farm, sized-pipe, height-farm, height-pipe, next}
use Rattle.msl_line.specs.Lines.{duties_of, duties_in}
use Rattle.msl_line.proofs.Parts.{fits-farm, fits-pipe, primitives-farm, primitives-pipe, duties-farm, duties-pipe, none_left}
use Rattle.msl_line.proofs.tasks.+put_tasks.Goals as goal

-- ---- a farm

pub put_tasks-requires : goal.put_tasks-requires
put_tasks-requires g t c =
    let s = c.args.script.now in
    let n = c.in-Farm.field-0 in
    let st = c.in-Farm.stage in
    λ κs lives. (
      omega (arith, ap height c.in-Farm.is, height-farm n st, ap height c.get.ensures),
      (
        lives,
        (
          subst (Fits s true) (sym c.get.ensures) (fits-farm s true n st (subst (Fits s true) c.in-Farm.is c.requires.fits)),
          (
            subst IsSized (sym c.get.ensures) (sized-farm n st (subst IsSized c.in-Farm.is c.requires.sized)).1,
            omega (arith, c.requires.few, ap primitives_of c.in-Farm.is, primitives-farm n st, ap primitives_of c.get.ensures),
          ),
        ),
      ),
    )

pub returns-in_ok-put_tasks-in-Farm : goal.returns-in_ok-put_tasks-in-Farm
returns-in_ok-put_tasks-in-Farm g t c =
    let s = c.args.script.now in
    let k = c.args.number in
    c.in_ok-put_tasks-in-Farm.ensures
    ∙ ap (λ ds. c.args.tasks.now.items ++ ds) (ap (duties_of c.args.how s k) c.get.ensures ∙ sym (ap (duties_of c.args.how s k) c.in-Farm.is ∙ duties-farm c.args.how s k c.in-Farm.field-0 c.in-Farm.stage))

-- ---- a pipe

pub loop-stage-init : goal.loop-stage-init
loop-stage-init g t c =
    let s = c.args.script.now in
    let k = c.args.number in
    let sts = c.in-Pipe.stages in
    let same = c.as_slice-stage-items.ensures in
    record {
      fits = subst (λ (ss : List Stage). AllFit s true (row ss)) (sym same) (fits-pipe s true sts (subst (Fits s true) c.in-Pipe.is c.requires.fits));
      sized = subst (λ (ss : List Stage). AreSized (row ss)) (sym same) (sized-pipe sts (subst IsSized c.in-Pipe.is c.requires.sized));
      few = omega (arith, c.requires.few, ap primitives_of c.in-Pipe.is, primitives-pipe sts, ap (λ (ss : List Stage). primitives_in (row ss)) same);
      lower = omega (arith, ap height c.in-Pipe.is, height-pipe sts, ap (λ (ss : List Stage). greatest_height (row ss)) same);
      all = ap (λ ds. c.args.tasks.now.items ++ ds) (ap (λ (ss : List Stage). duties_in c.args.how s k (row ss)) same ∙ sym (ap (duties_of c.args.how s k) c.in-Pipe.is ∙ duties-pipe c.args.how s k sts));
    }

pub put_tasks-requires-in-loop-stage : goal.put_tasks-requires-in-loop-stage
put_tasks-requires-in-loop-stage g t c =
    let s = c.args.script.now in
    let is = next c.as_slice-stage-items.result.now c.loop-stage.stage-index c.stage-item.result c.loop-stage-test.true c.stage-item.is in
    let fits = subst (λ (ss : List Stage). AllFit s true (row ss)) is c.loop-stage.invariant.fits in
    let sized = subst (λ (ss : List Stage). AreSized (row ss)) is c.loop-stage.invariant.sized in
    λ κs lives. (
      omega (arith, c.loop-stage.invariant.lower, ap (λ (ss : List Stage). greatest_height (row ss)) is),
      (lives, (fits.0, (sized.0, omega (arith, c.loop-stage.invariant.few, ap (λ (ss : List Stage). primitives_in (row ss)) is)))),
    )

pub primitives-number-requires : goal.primitives-number-requires
primitives-number-requires g t c =
    let is = next c.as_slice-stage-items.result.now c.loop-stage.stage-index c.stage-item.result c.loop-stage-test.true c.stage-item.is in
    omega (arith, c.loop-stage.invariant.few, ap (λ (ss : List Stage). primitives_in (row ss)) is)

pub overflow_add-number : goal.overflow_add-number
overflow_add-number g t c =
    let is = next c.as_slice-stage-items.result.now c.loop-stage.stage-index c.stage-item.result c.loop-stage-test.true c.stage-item.is in
    omega (arith, c.loop-stage.invariant.few, ap (λ (ss : List Stage). primitives_in (row ss)) is)

pub loop-stage-preserved : goal.loop-stage-preserved
loop-stage-preserved g t c =
    let s = c.args.script.now in
    let k = c.loop-stage.number in
    let left = drop (c.loop-stage.stage-index + 1) c.as_slice-stage-items.result.now in
    let is = next c.as_slice-stage-items.result.now c.loop-stage.stage-index c.stage-item.result c.loop-stage-test.true c.stage-item.is in
    let fits = subst (λ (ss : List Stage). AllFit s true (row ss)) is c.loop-stage.invariant.fits in
    let sized = subst (λ (ss : List Stage). AreSized (row ss)) is c.loop-stage.invariant.sized in
    record {
      fits = fits.1;
      sized = sized.1;
      few = omega (arith, c.loop-stage.invariant.few, ap (λ (ss : List Stage). primitives_in (row ss)) is);
      lower = omega (arith, c.loop-stage.invariant.lower, ap (λ (ss : List Stage). greatest_height (row ss)) is);
      all =
          (λ i. c.in_ok-put_tasks-in-Pipe.ensures i ++ duties_in c.args.how s (k + c.primitives-number.ensures i) (row left))
          ∙ append_assoc c.loop-stage.tasks.items (duties_of c.args.how s k c.stage-item.result) (duties_in c.args.how s (k + primitives_of c.stage-item.result) (row left))
          ∙ ap (λ (ss : List Stage). c.loop-stage.tasks.items ++ duties_in c.args.how s k (row ss)) (sym is)
          ∙ c.loop-stage.invariant.all;
    }

pub returns-after-loop-stage : goal.returns-after-loop-stage
returns-after-loop-stage g t c =
    let none = none_left c.args.how c.args.script.now c.loop-stage.number c.as_slice-stage-items.result.now c.loop-stage.stage-index c.loop-stage-test.false in
    sym (append-nil c.loop-stage.tasks.items) ∙ ap (λ ds. c.loop-stage.tasks.items ++ ds) (sym none) ∙ c.loop-stage.invariant.all
