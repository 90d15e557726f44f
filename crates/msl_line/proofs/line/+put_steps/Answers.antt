use Rattle.std.proofs.Common.{◌+◌, ◌++◌, true, false, List, [], ◌∷◌, drop, append_assoc, append-nil, arith, ap, sym, refl, ◌∙◌, subst}
use Rattle.msl_program.specs.declared.stage.Stage.{Stage}
use Rattle.msl_program.specs.Stages.{row, primitives_of, primitives_in}
use Rattle.msl_program.specs.Fitting.{Fits, AllFit}
use Rattle.msl_program.specs.ScriptPromise.{IsSized, AreSized, height, greatest_height}
use Rattle.msl_program.proofs.Needs.{sized-farm, sized-pipe, height-pipe, next}
use Rattle.msl_line.specs.Lines.{duties_of, farm_step, IsLineOf, IsLineThrough}
use Rattle.msl_line.proofs.Runs.{Steps}
use Rattle.msl_line.proofs.Parts.{fits-farm, fits-pipe, primitives-farm, primitives-pipe, none_through, line-farm, line-pipe}
use Rattle.msl_line.proofs.line.+put_steps.Goals as goal

-- ---- a farm

pub farm_of-requires-clause-fits : goal.farm_of-requires-clause-fits
farm_of-requires-clause-fits g t c =
    let s = c.args.script.now in
    subst (Fits s true) (sym c.get.ensures) (fits-farm s false c.in-Farm.count c.in-Farm.stage (subst (Fits s false) c.in-Farm.is c.requires.fits))

pub farm_of-requires-clause-sized : goal.farm_of-requires-clause-sized
farm_of-requires-clause-sized g t c =
    subst IsSized (sym c.get.ensures) (sized-farm c.in-Farm.count c.in-Farm.stage (subst IsSized c.in-Farm.is c.requires.sized)).1

pub farm_of-requires-clause-few : goal.farm_of-requires-clause-few
farm_of-requires-clause-few g t c =
    omega (arith, c.requires.few, ap primitives_of c.in-Farm.is, primitives-farm c.in-Farm.count c.in-Farm.stage, ap primitives_of c.get.ensures)

-- ---- a pipe

pub loop-stage-init : goal.loop-stage-init
loop-stage-init g t c =
    let s = c.args.script.now in
    let k = c.args.number in
    let how = c.args.how in
    let sts = c.in-Pipe.stages in
    let same = c.as_slice-stage-items.ensures in
    record {
      fits = subst (λ (ss : List Stage). AllFit s false (row ss)) (sym same) (fits-pipe s false sts (subst (Fits s false) c.in-Pipe.is c.requires.fits));
      sized = subst (λ (ss : List Stage). AreSized (row ss)) (sym same) (sized-pipe sts (subst IsSized c.in-Pipe.is c.requires.sized));
      few = omega (arith, c.requires.few, ap primitives_of c.in-Pipe.is, primitives-pipe sts, ap (λ (ss : List Stage). primitives_in (row ss)) same);
      lower = omega (arith, ap height c.in-Pipe.is, height-pipe sts, ap (λ (ss : List Stage). greatest_height (row ss)) same);
      all = (
        [],
        sym (append-nil c.args.line.now.items),
        λ back h.
            subst (λ (st : Stage). IsLineOf how s k st back) (sym c.in-Pipe.is) (line-pipe how s k sts back (subst (λ (ss : List Stage). IsLineThrough how s k (row ss) back) same h)),
      );
    }

pub primitives-requires : goal.primitives-requires
primitives-requires g t c =
    let is = next c.as_slice-stage-items.result.now c.loop-stage.stage-index c.stage-item.result c.loop-stage-test.true c.stage-item.is in
    omega (arith, c.loop-stage.invariant.few, ap (λ (ss : List Stage). primitives_in (row ss)) is)

pub overflow_add-number : goal.overflow_add-number
overflow_add-number g t c =
    let is = next c.as_slice-stage-items.result.now c.loop-stage.stage-index c.stage-item.result c.loop-stage-test.true c.stage-item.is in
    omega (arith, c.loop-stage.invariant.few, ap (λ (ss : List Stage). primitives_in (row ss)) is)

pub loop-stage-preserved : goal.loop-stage-preserved
loop-stage-preserved g t c =
    let s = c.args.script.now in
    let how = c.args.how in
    let k = c.loop-stage.number in
    let left = drop (c.loop-stage.stage-index + 1) c.as_slice-stage-items.result.now in
    let is = next c.as_slice-stage-items.result.now c.loop-stage.stage-index c.stage-item.result c.loop-stage-test.true c.stage-item.is in
    let fits = subst (λ (ss : List Stage). AllFit s false (row ss)) is c.loop-stage.invariant.fits in
    let sized = subst (λ (ss : List Stage). AreSized (row ss)) is c.loop-stage.invariant.sized in
    let before = c.loop-stage.invariant.all in
    let more = c.in_ok-put_steps-in-Pipe.ensures in
    record {
      fits = fits.1;
      sized = sized.1;
      few = omega (arith, c.loop-stage.invariant.few, ap (λ (ss : List Stage). primitives_in (row ss)) is);
      lower = omega (arith, c.loop-stage.invariant.lower, ap (λ (ss : List Stage). greatest_height (row ss)) is);
      all = (
        before.0 ++ more.0,
        more.1 ∙ ap (λ (ss : Steps). ss ++ more.0) before.1 ∙ append_assoc c.args.line.now.items before.0 more.0,
        λ back h.
            subst (IsLineOf how s c.args.number c.args.stage.now) (sym (append_assoc before.0 more.0 back))
            (before.2 (more.0 ++ back) (subst (λ (ss : List Stage). IsLineThrough how s k (row ss) (more.0 ++ back)) (sym is)
            (more.0, back, refl, more.2, subst (λ n. IsLineThrough how s n (row left) back) (ap (λ n. k + n) c.primitives.ensures) h))),
      );
    }

pub returns-after-loop-stage : goal.returns-after-loop-stage
returns-after-loop-stage g t c =
    let s = c.args.script.now in
    let how = c.args.how in
    let k = c.loop-stage.number in
    let before = c.loop-stage.invariant.all in
    let whole = before.2 [] (none_through how s k c.as_slice-stage-items.result.now c.loop-stage.stage-index c.loop-stage-test.false) in
    (before.0, before.1, subst (IsLineOf how s c.args.number c.args.stage.now) (append-nil before.0) whole)

pub returns-in_ok-push-in-Farm : goal.returns-in_ok-push-in-Farm
returns-in_ok-push-in-Farm g t c =
    let s = c.args.script.now in
    let how = c.args.how in
    let k = c.args.number in
    let st = c.in-Farm.stage in
    let one = farm_step how c.in-Farm.count (duties_of how s k st) in (
      one ∷ [],
      c.in_ok-push-in-Farm.ensures.items ∙ ap (λ t. c.args.line.now.items ++ t ∷ []) (c.in_ok-farm_of-in-Farm.ensures ∙ ap (λ (u : Stage). farm_step how c.in-Farm.count (duties_of how s k u)) c.get.ensures),
      subst (λ (u : Stage). IsLineOf how s k u (one ∷ [])) (sym c.in-Farm.is) (line-farm how s k c.in-Farm.count st),
    )

pub put_steps-requires : goal.put_steps-requires
put_steps-requires g t c =
    let s = c.args.script.now in
    let left = drop (c.loop-stage.stage-index + 1) c.as_slice-stage-items.result.now in
    let is = next c.as_slice-stage-items.result.now c.loop-stage.stage-index c.stage-item.result c.loop-stage-test.true c.stage-item.is in
    let fits = subst (λ (ss : List Stage). AllFit s false (row ss)) is c.loop-stage.invariant.fits in
    let sized = subst (λ (ss : List Stage). AreSized (row ss)) is c.loop-stage.invariant.sized in
    λ κs lives. (
      omega (arith, c.loop-stage.invariant.lower, ap (λ (ss : List Stage). greatest_height (row ss)) is),
      (lives, (fits.0, (sized.0, omega (arith, c.loop-stage.invariant.few, ap (λ (ss : List Stage). primitives_in (row ss)) is)))),
    )
