use Rattle.std.proofs.Common.{[], ◌∷◌, codes}
use Rattle.msl_fun_print.specs.FunText.{mark, named, space}
use Rattle.msl_script_print.specs.ScriptText.{line_end}
use Rattle.msl_script_print.proofs.Words.{these, next, on_ok}
use Rattle.msl_script_print.proofs.printer.Printer.main.Goals as goal

pub returns : goal.returns
returns c =
    on_ok c.put-2.result c.put-2.ensures
    (λ last. next (these (named (codes "main") ∷ space ∷ mark (codes "=") ∷ space ∷ []) c.in_ok-put.ensures) (next (rw c.main.ensures.main at c.in_ok-stage.ensures) (these (mark (codes ";") ∷ line_end ∷ []) last)))
