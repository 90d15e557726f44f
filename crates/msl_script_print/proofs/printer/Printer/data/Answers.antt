use Rattle.std.proofs.Common.{List, [], ◌∷◌, OnOk, subst, map, codes, slice_index_or, drop_of_length-le}
use Rattle.msl_fun.specs.Checks.{names_of}
use Rattle.msl_fun_print.specs.FunText.{space, named}
use Rattle.msl_program.specs.declared.data.DataLine.{DataLine}
use Rattle.msl_script_print.specs.ScriptText.{line_bits, data_bits}
use Rattle.msl_script_print.specs.Words.{Prints, names_in}
use Rattle.msl_script_print.proofs.Words.{next, same_bits, all_lines, indented-append, on_ok}
use Rattle.msl_script_print.proofs.printer.Printer.data.Goals as goal

pub returns : goal.returns
returns c =
    let lines = c.as_slice-lines.result.now in
    let bits = map (line_bits (names_of c.args.funs.now) (names_in lines)) lines in
    let none = drop_of_length-le lines c.loop-line-test.false in
    let all = all_lines bits (rw none at c.loop-line.invariant) in
    let give = (named (codes "give") ∷ space ∷ named (slice_index_or (names_in lines) c.args.d.now.give []) ∷ []) ∷ [] in
    subst (λ (ls : List DataLine). OnOk c.close.result (Prints c.args.self.now (data_bits (names_of c.args.funs.now) (record { name = c.args.d.now.name; lines = ls; give = c.args.d.now.give })) c.close.new.self)) c.as_slice-lines.ensures
    (on_ok c.close.result c.close.ensures (λ last. next c.in_ok-open.ensures (next (same_bits (indented-append bits give) (next all (rw c.name_at.ensures at c.in_ok-clause.ensures))) last)))
