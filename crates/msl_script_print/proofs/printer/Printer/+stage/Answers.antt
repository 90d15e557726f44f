use Rattle.std.proofs.Common.{[], ◌∷◌, map, codes, drop_of_length-le, ap, ◌∙◌}
use Rattle.msl_fun_print.specs.FunText.{mark, named, space}
use Rattle.msl_script_print.specs.ScriptText.{stage_bits}
use Rattle.msl_script_print.proofs.Words.{these, next, same_bits, all_joined, farm_bits, pipe_bits, on_ok}
use Rattle.msl_script_print.proofs.printer.Printer.+stage.Goals as goal

pub stage-returns-in_ok-stage-in-Farm : goal.stage-returns-in_ok-stage-in-Farm
stage-returns-in_ok-stage-in-Farm t c =
    on_ok c.put-in-Farm.result c.put-in-Farm.ensures
    (λ last.
    same_bits (ap (stage_bits c.args.s.now) c.in-Farm.is ∙ farm_bits c.args.s.now c.in-Farm.n c.in-Farm.stage)
    (next c.in_ok-words-in-Farm.ensures (next (these (space ∷ mark (codes "{") ∷ space ∷ []) c.in_ok-put-in-Farm.ensures)
    (next (rw c.get.ensures at c.in_ok-stage-in-Farm.ensures) (these (space ∷ mark (codes "}") ∷ []) last)))))

pub stage-returns-in_ok-stages-in-Pipe : goal.stage-returns-in_ok-stages-in-Pipe
stage-returns-in_ok-stages-in-Pipe t c =
    on_ok c.put-in-Pipe-2.result c.put-in-Pipe-2.ensures
    (λ last.
    same_bits (ap (stage_bits c.args.s.now) c.in-Pipe.is ∙ pipe_bits c.args.s.now c.in-Pipe.stages)
    (next (these (named (codes "pipe") ∷ space ∷ mark (codes "{") ∷ space ∷ []) c.in_ok-put-in-Pipe.ensures)
    (next (rw c.as_slice-in-Pipe.ensures at c.in_ok-stages-in-Pipe.ensures) (these (space ∷ mark (codes "}") ∷ []) last))))

pub stages-returns : goal.stages-returns
stages-returns t c =
    let others = c.in-Some.others.now in
    let none = drop_of_length-le others c.loop-stage-test.false in
    rw (c.in-Some.ensures.cases.0) (all_joined (mark (codes ";") ∷ space ∷ []) (map (stage_bits c.args.s.now) others) c.in_ok-stage.ensures (rw none at c.loop-stage.invariant))
