use Rattle.std.proofs.Common.{◌≡◌, ◌++◌, drop}
use Rattle.msl_script_print.specs.Words.{behind}
use Rattle.msl_script_print.proofs.Words.{items_text}
use Rattle.msl_script_print.proofs.printer.Printer.items.Given as goal

abbrev pub invariant-loop-kind : goal.invariant-loop-kind
invariant-loop-kind l = l.self ++ items_text l.funs (behind (drop l.kind-index l.kind-items) l.others) ≡ l.initial.self ++ items_text l.funs (behind l.kind-items l.initial.others)
