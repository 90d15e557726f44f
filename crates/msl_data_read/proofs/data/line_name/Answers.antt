use Rattle.std.proofs.Common.{length, is_some, ap, sym, ◌∙◌, arith}
use Rattle.msl_base.proofs.Names.{has_place}
use Rattle.msl_program.specs.Programs.{line_names}
use Rattle.msl_grammar.specs.ScriptGrammar.{reading, lines, line_rest}
use Rattle.msl_data_read.proofs.ProgramLeaves.{line_many, line_twice, line_begins, shorter}
use Rattle.msl_data_read.proofs.data.line_name.Goals as goal

pub returns-then-len-ge-MOST_DATA_LINES-clause-read : goal.returns-then-len-ge-MOST_DATA_LINES-clause-read
returns-then-len-ge-MOST_DATA_LINES-clause-read c =
    rw c.refusal.ensures (λ m k. line_many m c.args.program.now k c.in-Some.name.now c.args.c.now c.requires.more c.in-Some.ensures.name (omega arith))

pub returns-clause-taken : goal.returns-clause-taken
returns-clause-taken c = omega (arith, ap length c.advance.ensures, shorter c.args.c.now c.in-Some.name.now c.in-Some.ensures.name)

pub returns-clause-shorter : goal.returns-clause-shorter
returns-clause-shorter c = omega (arith, ap length c.advance.ensures, shorter c.args.c.now c.in-Some.name.now c.in-Some.ensures.name)

pub returns-then-is_some-clause-read : goal.returns-then-is_some-clause-read
returns-then-is_some-clause-read c =
    let p = c.args.program.now in
    let n = c.in-Some.name.now in
    let there = sym (has_place (line_names p) n) ∙ ap is_some (sym c.find.ensures) ∙ sym c.is_some.ensures ∙ c.if-is_some.true in
    rw c.refusal-then-is_some.ensures (λ m k. line_twice m p k n c.args.c.now c.requires.more c.in-Some.ensures.name (omega arith) there)

pub returns-clause-read : goal.returns-clause-read
returns-clause-read c =
    let p = c.args.program.now in
    let n = c.in-Some.name.now in
    let new = sym (has_place (line_names p) n) ∙ ap is_some (sym c.find.ensures) ∙ sym c.is_some.ensures ∙ c.if-is_some.false in
    λ m k. line_begins m p k n c.args.c.now c.requires.more c.in-Some.ensures.name (omega arith) new
    ∙ (λ i. reading (sym c.advance.ensures i) (line_rest m p (sym c.in_ok-name.ensures i) (λ q. lines m q k)))
