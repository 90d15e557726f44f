use Rattle.std.proofs.Common.{◌≡◌, [], ◌∷◌, ◌++◌, map, drop, codes}
use Rattle.msl_fun_print.specs.FunText.{space, mark}
use Rattle.msl_script_print.specs.ScriptText.{integer}
use Rattle.msl_script_print.proofs.Words.{left}
use Rattle.msl_script_print.proofs.printer.Printer.integers.Given as goal

abbrev pub invariant-loop-number : goal.invariant-loop-number
invariant-loop-number l =
    l.self ++ left (mark (codes ",") ∷ space ∷ []) (map integer (drop l.number-index l.others)) ≡ l.initial.self ++ left (mark (codes ",") ∷ space ∷ []) (map integer l.others)
