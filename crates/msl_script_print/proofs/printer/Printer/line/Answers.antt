use Rattle.std.proofs.Common.{[], ◌∷◌, codes, append-nil}
use Rattle.msl_fun_print.specs.FunText.{space, mark}
use Rattle.msl_script_print.specs.ScriptText.{line_end}
use Rattle.msl_script_print.proofs.Words.{these, next, on_ok}
use Rattle.msl_script_print.proofs.printer.Printer.line.Goals as goal

pub returns : goal.returns
returns c =
    on_ok c.put-3.result c.put-3.ensures
    (λ last.
    rw append-nil
    (next (next (these (space ∷ space ∷ []) c.in_ok-put.ensures)
    (next (rw c.as_str.ensures at c.in_ok-words.ensures) (next (these (space ∷ mark (codes "=") ∷ space ∷ []) c.in_ok-put-2.ensures) c.in_ok-step.ensures))) (these (mark (codes ";") ∷ line_end ∷ []) last)))
