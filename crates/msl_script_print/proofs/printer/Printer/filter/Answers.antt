use Rattle.std.proofs.Common.{[], ◌∷◌, codes}
use Rattle.msl_fun_print.specs.FunText.{space, named, mark}
use Rattle.msl_script_print.specs.ScriptText.{line_end}
use Rattle.msl_script_print.proofs.Words.{these, next, on_ok}
use Rattle.msl_script_print.proofs.printer.Printer.filter.Goals as goal

pub returns : goal.returns
returns c =
    on_ok c.close.result c.close.ensures
    (λ last.
    let state = next c.in_ok-open.ensures (next (these (space ∷ space ∷ named (codes "state") ∷ space ∷ []) c.in_ok-put.ensures) (next (rw c.as_slice.ensures.numbers at c.in_ok-integers.ensures) (these (mark (codes ";") ∷ line_end ∷ []) c.in_ok-put-2.ensures))) in
    let functions = next c.in_ok-function.ensures (next c.in_ok-function-2.ensures (next c.in_ok-function-3.ensures (next c.in_ok-function-4.ensures c.in_ok-function-5.ensures))) in
    next (next state functions) last)
