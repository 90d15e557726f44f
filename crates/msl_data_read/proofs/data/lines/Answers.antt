use Rattle.std.proofs.Common.{ap, sym, subst, ◌∙◌}
use Rattle.msl_read.specs.Refusals.{IsRefused}
use Rattle.msl_grammar.specs.ScriptGrammar.{lines, give_rule, reading}
use Rattle.msl_grammar.proofs.Exits.{is_err}
use Rattle.msl_data_read.proofs.ProgramLeaves.{lines_end}
use Rattle.msl_data_read.proofs.data.lines.Goals as goal

pub returns-in_err-one_line-clause-read : goal.returns-in_err-one_line-clause-read
returns-in_err-one_line-clause-read c =
    let m = c.args.known.now in
    rw (is_err c.from_residual.result c.from_residual.ensures.1)
    (λ k.
    let goes = c.loop-c.invariant.goes k ∙ ap (λ ts. reading ts (lines m c.loop-c.program k)) (sym c.loop-c-test.ensures.taken) in
    subst (λ r. IsRefused r c.in_err-one_line.field-0.0) (sym goes) (c.in_err-one_line.ensures.read k))

pub returns-in_err-give-clause-read : goal.returns-in_err-give-clause-read
returns-in_err-give-clause-read c =
    let m = c.args.known.now in
    let p = c.loop-c.program in
    rw (is_err c.from_residual-in_err-give.result c.from_residual-in_err-give.ensures.1)
    (λ k.
    let goes = c.loop-c.invariant.goes k ∙ lines_end m p k c.loop-c.c (sym c.loop-c-test.ensures.said) ∙ ap (λ ts. reading ts (give_rule p k)) (sym c.loop-c-test.ensures.taken) in
    subst (λ r. IsRefused r c.in_err-give.field-0.0) (sym goes) (c.in_err-give.ensures.read (λ v. k (p, v))))

pub returns-clause-read : goal.returns-clause-read
returns-clause-read c =
    let m = c.args.known.now in
    let p = c.loop-c.program in
    λ k. c.loop-c.invariant.goes k
    ∙ lines_end m p k c.loop-c.c (sym c.loop-c-test.ensures.said)
    ∙ ap (λ ts. reading ts (give_rule p k)) (sym c.loop-c-test.ensures.taken)
    ∙ c.in_ok-give.ensures.read (λ v. k (p, v))
