use Rattle.std.proofs.Common.{[], ◌∷◌, ap, ◌∙◌, ◌++◌}
use Rattle.msl_fun_print.specs.FunText.{fun_bits}
use Rattle.msl_script_print.specs.ScriptText.{line_end}
use Rattle.msl_script_print.proofs.Words.{these, next, on_ok}
use Rattle.msl_script_print.proofs.printer.Printer.fun.Goals as goal

pub returns : goal.returns
returns c =
    on_ok c.put-2.result c.put-2.ensures
    (λ last.
    next (these (fun_bits c.args.funs.now c.args.f.now) (c.in_ok-put.ensures ∙ ap (λ t. c.args.self.now ++ t) (c.deref.ensures.value ∙ c.in_ok-text.ensures))) (these (line_end ∷ []) last))
