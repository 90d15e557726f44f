use Rattle.std.proofs.Common.{[], ◌∷◌, slice_index_or}
use Rattle.msl_fun.specs.Checks.{names_of}
use Rattle.msl_fun_print.specs.FunText.{space, named}
use Rattle.msl_script_print.specs.ScriptText.{use_bits}
use Rattle.msl_script_print.specs.Words.{names_in}
use Rattle.msl_script_print.proofs.Words.{these, next, same_bits, one_word_more, on_ok}
use Rattle.msl_script_print.proofs.printer.Printer.two.Goals as goal

pub returns : goal.returns
returns c =
    let names = names_in c.args.lines.now in
    let usage = use_bits (names_of c.args.funs.now) names c.args.u.now in
    on_ok c.named.result c.named.ensures
    (λ last.
    same_bits (one_word_more (named c.args.word.now) usage (named (slice_index_or names c.args.l [])) (named (slice_index_or names c.args.o [])))
    (next c.in_ok-one.ensures (next (these (space ∷ []) c.in_ok-put.ensures) last)))
