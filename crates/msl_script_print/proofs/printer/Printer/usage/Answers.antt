use Rattle.msl_script_print.proofs.Words.{next, on_ok}
use Rattle.msl_script_print.proofs.printer.Printer.usage.Goals as goal

pub returns : goal.returns
returns c = on_ok c.args-2.result c.args-2.ensures (λ last. next c.in_ok-named.ensures (rw c.as_slice.ensures at last))
