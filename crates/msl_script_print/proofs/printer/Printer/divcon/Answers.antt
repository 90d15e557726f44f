use Rattle.msl_script_print.proofs.Words.{next, on_ok}
use Rattle.msl_script_print.proofs.printer.Printer.divcon.Goals as goal

pub returns : goal.returns
returns c =
    on_ok c.close.result c.close.ensures
    (λ last. next c.in_ok-open.ensures (next c.in_ok-clause.ensures (next c.in_ok-clause-2.ensures (next c.in_ok-function.ensures (next c.in_ok-function-2.ensures (next c.in_ok-function-3.ensures (next c.in_ok-function-4.ensures last)))))))
