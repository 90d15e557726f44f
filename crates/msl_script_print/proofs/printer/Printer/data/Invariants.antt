use Rattle.std.proofs.Common.{◌≡◌, ◌++◌, map, drop}
use Rattle.msl_fun.specs.Checks.{names_of}
use Rattle.msl_script_print.specs.ScriptText.{line_bits}
use Rattle.msl_script_print.specs.Words.{names_in}
use Rattle.msl_script_print.proofs.Words.{lines_text}
use Rattle.msl_script_print.proofs.printer.Printer.data.Given as goal

abbrev pub invariant-loop-line : goal.invariant-loop-line
invariant-loop-line l =
    l.self ++ lines_text (map (line_bits (names_of l.funs) (names_in l.lines)) (drop l.line-index l.lines)) ≡ l.initial.self ++ lines_text (map (line_bits (names_of l.funs) (names_in l.lines)) l.lines)
