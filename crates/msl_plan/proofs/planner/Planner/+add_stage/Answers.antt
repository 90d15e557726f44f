use Rattle.std.proofs.Common.{ℕ, ◌+◌, ◌-◌, List, drop, arith, ap, sym, ◌∙◌, subst}
use Rattle.msl_program.specs.declared.stage.Stage.{Stage}
use Rattle.msl_program.specs.Stages.{row, primitives_of, primitives_in}
use Rattle.msl_program.specs.ScriptPromise.{IsSized, AreSized, height, greatest_height}
use Rattle.msl_program.specs.Need.{need_of}
use Rattle.msl_program.proofs.Needs.{sized-farm, sized-pipe, height-farm, height-pipe, part_of_farm, next}
use Rattle.msl_plan.specs.Plans.{repeated, places_of, places_in}
use Rattle.msl_plan.specs.Planning.{with_places}
use Rattle.msl_plan.proofs.Places.{places-farm, places-pipe, primitives-farm, primitives-pipe, none_left, no_primitives_left, members_are_needed, moved, done, room, first_worker, one_worker, no_worker}
use Rattle.msl_plan.proofs.planner.Planner.+add_stage.Goals as goal

-- ---- a farm

pub add_stage-requires : goal.add_stage-requires
add_stage-requires t c =
    let n = c.in-Farm.workers in
    let st = c.in-Farm.worker in
    let sized = sized-farm n st (subst IsSized c.in-Farm.is c.requires.sized) in (
      omega (arith, ap height c.in-Farm.is, height-farm n st, ap height c.get-worker.ensures),
      (
        subst IsSized (sym c.get-worker.ensures) sized.1,
        (
          omega (arith, c.requires.few, ap primitives_of c.in-Farm.is, primitives-farm n st, ap primitives_of c.get-worker.ensures),
          omega (arith, c.requires.fits, ap need_of c.in-Farm.is, part_of_farm n st sized.0, ap need_of c.get-worker.ensures),
        ),
      ),
    )

pub add_stage-requires-in-loop : goal.add_stage-requires-in-loop
add_stage-requires-in-loop t c =
    let k = c.args.number in
    let n = c.in-Farm.workers in
    let st = c.in-Farm.worker in
    let worker = c.get-worker.result.now in
    let ps = places_of k worker in
    let sized = sized-farm n st (subst IsSized c.in-Farm.is c.requires.sized) in
    let fits = room c.loop.self c.args.self.now ps (repeated (n - (c.loop.counter + 1)) ps) (repeated (n - c.loop.counter) ps) (places_of k c.args.stage.now) (one_worker n c.loop.counter ps c.loop-test.true) c.loop.invariant in (
      omega (arith, ap height c.in-Farm.is, height-farm n st, ap height c.get-worker.ensures),
      (
        subst IsSized (sym c.get-worker.ensures) sized.1,
        (
          omega (arith, c.requires.few, ap primitives_of c.in-Farm.is, primitives-farm n st, ap primitives_of c.get-worker.ensures),
          omega (arith, c.requires.fits, fits, members_are_needed k worker, members_are_needed k c.args.stage.now),
        ),
      ),
    )

pub loop-init : goal.loop-init
loop-init t c =
    let k = c.args.number in
    let n = c.in-Farm.workers in
    let ps = places_of k c.get-worker.result.now in
    let sized = sized-farm n c.in-Farm.worker (subst IsSized c.in-Farm.is c.requires.sized) in
    let all = ap (places_of k) c.in-Farm.is ∙ places-farm k n c.in-Farm.worker ∙ ap (λ (st : Stage). repeated n (places_of k st)) (sym c.get-worker.ensures) in
    moved c.args.self.now c.add_stage.new.self ps (repeated (n - 1) ps) (places_of k c.args.stage.now) c.in_ok-behind-in-Farm.ensures.teams (all ∙ first_worker n ps sized.0)

pub loop-preserved : goal.loop-preserved
loop-preserved t c =
    let n = c.in-Farm.workers in
    let i = c.loop.counter in
    let ps = places_of c.args.number c.get-worker.result.now in
    moved c.loop.self c.add_stage-in-loop.new.self ps (repeated (n - (i + 1)) ps) (repeated (n - i) ps) c.in_ok-add_stage-in-Farm.ensures.teams (one_worker n i ps c.loop-test.true) ∙ c.loop.invariant

pub returns-after-loop-clause-teams : goal.returns-after-loop-clause-teams
returns-after-loop-clause-teams t c =
    let ps = places_of c.args.number c.get-worker.result.now in
    done c.loop.self (repeated (c.in-Farm.workers - c.loop.counter) ps) (no_worker c.in-Farm.workers c.loop.counter ps c.loop-test.false) ∙ c.loop.invariant

pub returns-after-loop-clause-number : goal.returns-after-loop-clause-number
returns-after-loop-clause-number t c =
    omega (arith, c.in_ok-behind-in-Farm.ensures.number, ap primitives_of c.get-worker.ensures, ap primitives_of c.in-Farm.is, primitives-farm c.in-Farm.workers c.in-Farm.worker)

-- ---- a pipe

pub loop-stage-init : goal.loop-stage-init
loop-stage-init t c =
    let k = c.args.number in
    let sts = c.in-Pipe.stages in
    let same = c.as_slice-stage-items.ensures in
    record {
      sized = subst (λ (ss : List Stage). AreSized (row ss)) (sym same) (sized-pipe sts (subst IsSized c.in-Pipe.is c.requires.sized));
      lower = omega (arith, ap height c.in-Pipe.is, height-pipe sts, ap (λ (ss : List Stage). greatest_height (row ss)) same);
      numbers = omega (arith, ap primitives_of c.in-Pipe.is, primitives-pipe sts, ap (λ (ss : List Stage). primitives_in (row ss)) same);
      all = ap (with_places c.args.self.now) (ap (λ (ss : List Stage). places_in k (row ss)) same ∙ sym (ap (places_of k) c.in-Pipe.is ∙ places-pipe k sts));
    }

pub add_stage-requires-in-loop-stage : goal.add_stage-requires-in-loop-stage
add_stage-requires-in-loop-stage t c =
    let k = c.loop-stage.number in
    let st = c.stage-item.result in
    let left = drop c.loop-stage.stage-index c.as_slice-stage-items.result.now in
    let behind = drop (c.loop-stage.stage-index + 1) c.as_slice-stage-items.result.now in
    let is = next c.as_slice-stage-items.result.now c.loop-stage.stage-index st c.loop-stage-test.true c.stage-item.is in
    let sized = subst (λ (ss : List Stage). AreSized (row ss)) is c.loop-stage.invariant.sized in
    let fits = room c.loop-stage.self c.args.self.now (places_of k st) (places_in (k + primitives_of st) (row behind)) (places_in k (row left)) (places_of c.args.number c.args.stage.now) (ap (λ (ss : List Stage). places_in k (row ss)) is) c.loop-stage.invariant.all in (
      omega (arith, c.loop-stage.invariant.lower, ap (λ (ss : List Stage). greatest_height (row ss)) is),
      (
        sized.0,
        (
          omega (arith, c.requires.few, c.loop-stage.invariant.numbers, ap (λ (ss : List Stage). primitives_in (row ss)) is),
          omega (arith, c.requires.fits, fits, members_are_needed k st, members_are_needed c.args.number c.args.stage.now),
        ),
      ),
    )

pub loop-stage-preserved : goal.loop-stage-preserved
loop-stage-preserved t c =
    let k = c.loop-stage.number in
    let st = c.stage-item.result in
    let left = drop c.loop-stage.stage-index c.as_slice-stage-items.result.now in
    let behind = drop (c.loop-stage.stage-index + 1) c.as_slice-stage-items.result.now in
    let is = next c.as_slice-stage-items.result.now c.loop-stage.stage-index st c.loop-stage-test.true c.stage-item.is in
    let sized = subst (λ (ss : List Stage). AreSized (row ss)) is c.loop-stage.invariant.sized in
    record {
      sized = sized.1;
      lower = omega (arith, c.loop-stage.invariant.lower, ap (λ (ss : List Stage). greatest_height (row ss)) is);
      numbers = omega (arith, c.loop-stage.invariant.numbers, c.in_ok-number-in-Pipe.ensures.number, ap (λ (ss : List Stage). primitives_in (row ss)) is);
      all =
          ap (λ (m : ℕ). with_places c.add_stage-in-loop-stage.new.self (places_in m (row behind))) c.in_ok-number-in-Pipe.ensures.number
          ∙ moved c.loop-stage.self c.add_stage-in-loop-stage.new.self (places_of k st) (places_in (k + primitives_of st) (row behind)) (places_in k (row left)) c.in_ok-number-in-Pipe.ensures.teams (ap (λ (ss : List Stage). places_in k (row ss)) is)
          ∙ c.loop-stage.invariant.all;
    }

pub returns-after-loop-stage-clause-teams : goal.returns-after-loop-stage-clause-teams
returns-after-loop-stage-clause-teams t c =
    let sts = c.as_slice-stage-items.result.now in
    let i = c.loop-stage.stage-index in
    done c.loop-stage.self (places_in c.loop-stage.number (row (drop i sts))) (none_left c.loop-stage.number sts i c.loop-stage-test.false) ∙ c.loop-stage.invariant.all

pub returns-after-loop-stage-clause-number : goal.returns-after-loop-stage-clause-number
returns-after-loop-stage-clause-number t c =
    omega (arith, c.loop-stage.invariant.numbers, no_primitives_left c.as_slice-stage-items.result.now c.loop-stage.stage-index c.loop-stage-test.false)
