use Rattle.std.proofs.Common.{map, [], ◌∷◌, codes, drop_of_length-le, rules, FitsSigned, w64, to_z-of_z}
use Rattle.msl_fun_print.specs.FunText.{space, mark}
use Rattle.msl_script_print.specs.ScriptText.{integer}
use Rattle.msl_script_print.proofs.Words.{all_joined, listed_is}
use Rattle.msl_script_print.proofs.printer.Printer.integers.Goals as goal

pub returns : goal.returns
returns c =
    let others = c.in-Some.others.now in
    let none = drop_of_length-le others c.loop-number-test.false in
    let fits : FitsSigned w64 c.in-Some.first.now = search rules in
    rw (c.in-Some.ensures.cases.0, listed_is) (all_joined (mark (codes ",") ∷ space ∷ []) (map integer others) (rw (to_z-of_z fits) at c.in_ok-integer.ensures) (rw none at c.loop-number.invariant))
