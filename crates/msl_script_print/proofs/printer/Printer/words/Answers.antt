use Rattle.std.proofs.Common.{map, [], ◌∷◌, drop_of_length-le}
use Rattle.msl_fun_print.specs.FunText.{space}
use Rattle.msl_script_print.specs.Words.{word_bits}
use Rattle.msl_script_print.proofs.Words.{all_joined}
use Rattle.msl_script_print.proofs.printer.Printer.words.Goals as goal

pub returns : goal.returns
returns c =
    let others = c.in-Some.others.now in
    let none = drop_of_length-le others c.loop-word-test.false in
    rw (c.in-Some.ensures.cases.0) (all_joined (space ∷ []) (map word_bits others) c.in_ok-word.ensures (rw none at c.loop-word.invariant))
