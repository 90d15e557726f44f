use Rattle.std.proofs.Common.{map, [], ◌∷◌, codes, drop_of_length-le}
use Rattle.msl_fun.specs.Checks.{names_of}
use Rattle.msl_fun_print.specs.FunText.{space, mark}
use Rattle.msl_script_print.specs.ScriptText.{arg_bits}
use Rattle.msl_script_print.specs.Words.{names_in}
use Rattle.msl_script_print.proofs.Words.{these, next, same_bits, all_joined, listed_is, on_ok}
use Rattle.msl_script_print.proofs.printer.Printer.args.Goals as goal

pub returns : goal.returns
returns c =
    let others = c.in-Some.others.now in
    let none = drop_of_length-le others c.loop-arg-test.false in
    let bits = map (arg_bits (names_of c.args.funs.now) (names_in c.args.lines.now)) others in
    let first = arg_bits (names_of c.args.funs.now) (names_in c.args.lines.now) c.in-Some.first.now in
    rw (c.in-Some.ensures.cases.0)
    (on_ok c.put-2.result c.put-2.ensures
    (λ last. next (these (mark (codes "(") ∷ []) c.in_ok-put.ensures) (next (same_bits (listed_is (first ∷ bits)) (all_joined (mark (codes ",") ∷ space ∷ []) bits c.in_ok-arg.ensures (rw none at c.loop-arg.invariant))) (these (mark (codes ")") ∷ []) last))))
