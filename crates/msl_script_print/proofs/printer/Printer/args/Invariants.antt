use Rattle.std.proofs.Common.{◌≡◌, [], ◌∷◌, ◌++◌, map, drop, codes}
use Rattle.msl_fun.specs.Checks.{names_of}
use Rattle.msl_fun_print.specs.FunText.{space, mark}
use Rattle.msl_script_print.specs.ScriptText.{arg_bits}
use Rattle.msl_script_print.specs.Words.{names_in}
use Rattle.msl_script_print.proofs.Words.{left}
use Rattle.msl_script_print.proofs.printer.Printer.args.Given as goal

abbrev pub invariant-loop-arg : goal.invariant-loop-arg
invariant-loop-arg l =
    l.self ++ left (mark (codes ",") ∷ space ∷ []) (map (arg_bits (names_of l.funs) (names_in l.lines)) (drop l.arg-index l.others)) ≡
    l.initial.self ++ left (mark (codes ",") ∷ space ∷ []) (map (arg_bits (names_of l.funs) (names_in l.lines)) l.others)
