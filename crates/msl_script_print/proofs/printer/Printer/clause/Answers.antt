use Rattle.std.proofs.Common.{[], ◌∷◌, codes, append-nil}
use Rattle.msl_fun_print.specs.FunText.{space, mark}
use Rattle.msl_script_print.specs.ScriptText.{line_end}
use Rattle.msl_script_print.proofs.Words.{these, next, on_ok}
use Rattle.msl_script_print.proofs.printer.Printer.clause.Goals as goal

pub returns : goal.returns
returns c =
    on_ok c.put-2.result c.put-2.ensures
    (λ last. rw append-nil (next (next (these (space ∷ space ∷ []) c.in_ok-put.ensures) c.in_ok-words.ensures) (these (mark (codes ";") ∷ line_end ∷ []) last)))
