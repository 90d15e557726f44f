use Rattle.std.proofs.Common.{ℕ, List, ◌++◌, ap, ◌∙◌}
use Rattle.msl_lex.specs.Printing.{text_of}
use Rattle.msl_script_print.specs.ScriptText.{script_bits}
use Rattle.msl_script_print.proofs.Words.{next}
use Rattle.msl_script_print.proofs.print.print_script.Goals as goal

pub returns : goal.returns
returns c =
    let all = next (rw c.version.ensures.version at c.in_ok-version.ensures) (next c.in_ok-items.ensures c.in_ok-main.ensures) in
    c.into_text.ensures ∙ (all.is ∙ ap (λ (t : List ℕ). t ++ text_of (script_bits c.args.s.now)) c.new-p.ensures)
