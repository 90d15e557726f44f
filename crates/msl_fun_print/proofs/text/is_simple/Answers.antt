use Rattle.std.proofs.Common.{sym, ap, ◌∙◌}
use Rattle.msl_fun_print.specs.FunText.{is_simple}
use Rattle.msl_fun.proofs.Shapes.{binary_is}
use Rattle.msl_fun_print.proofs.text.is_simple.Goals as goal

pub returns-in-Bin : goal.returns-in-Bin
returns-in-Bin c = c.is_pair.ensures ∙ sym (ap is_simple (c.in-Bin.is ∙ binary_is c.in-Bin.op c.in-Bin.field-1 c.in-Bin.field-2))
