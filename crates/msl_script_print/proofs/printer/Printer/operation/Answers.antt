use Rattle.std.proofs.Common.{[], ◌∷◌}
use Rattle.msl_fun_print.specs.FunText.{space}
use Rattle.msl_script_print.proofs.Words.{these, next, on_ok}
use Rattle.msl_script_print.proofs.printer.Printer.operation.Goals as goal

pub returns : goal.returns
returns c =
    on_ok c.named.result c.named.ensures
    (λ last. next c.in_ok-words.ensures (next (these (space ∷ []) c.in_ok-put.ensures) (next c.in_ok-operator.ensures (next (these (space ∷ []) c.in_ok-put-2.ensures) last))))
