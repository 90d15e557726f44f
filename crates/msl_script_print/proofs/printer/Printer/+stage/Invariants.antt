use Rattle.std.proofs.Common.{◌≡◌, [], ◌∷◌, ◌++◌, map, drop, codes}
use Rattle.msl_fun_print.specs.FunText.{mark, space}
use Rattle.msl_script_print.specs.ScriptText.{stage_bits}
use Rattle.msl_script_print.proofs.Words.{left}
use Rattle.msl_script_print.proofs.printer.Printer.+stage.Given as goal

abbrev pub invariant-stages-loop-stage : goal.invariant-stages-loop-stage
invariant-stages-loop-stage l =
    l.self ++ left (mark (codes ";") ∷ space ∷ []) (map (stage_bits l.s) (drop l.stage-index l.others)) ≡ l.initial.self ++ left (mark (codes ";") ∷ space ∷ []) (map (stage_bits l.s) l.others)
