use Rattle.std.proofs.Common.{◌≡◌, [], ◌∷◌, ◌++◌, map, drop}
use Rattle.msl_fun_print.specs.FunText.{space}
use Rattle.msl_script_print.specs.Words.{word_bits}
use Rattle.msl_script_print.proofs.Words.{left}
use Rattle.msl_script_print.proofs.printer.Printer.words.Given as goal

abbrev pub invariant-loop-word : goal.invariant-loop-word
invariant-loop-word l = l.self ++ left (space ∷ []) (map word_bits (drop l.word-index l.others)) ≡ l.initial.self ++ left (space ∷ []) (map word_bits l.others)
