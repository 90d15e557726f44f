use Rattle.std.proofs.Common.{[], ◌∷◌, codes}
use Rattle.msl_fun_print.specs.FunText.{space, named}
use Rattle.msl_script_print.proofs.Words.{these, next, on_ok}
use Rattle.msl_script_print.proofs.printer.Printer.foldl.Goals as goal

pub returns : goal.returns
returns c =
    on_ok c.named.result c.named.ensures
    (λ last.
    next (these (named (codes "foldl") ∷ space ∷ []) c.in_ok-put.ensures)
    (next c.in_ok-usage.ensures (next (these (space ∷ []) c.in_ok-put-2.ensures) (next c.in_ok-arg.ensures (next (these (space ∷ []) c.in_ok-put-3.ensures) last)))))
