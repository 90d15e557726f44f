use Rattle.std.proofs.Common.{refl, ap, sym, ◌∙◌}
use Rattle.msl_lex.specs.declared.kind.Kind.TheVariants.{Width}
use Rattle.msl_program.specs.Programs.{given}
use Rattle.msl_grammar.specs.Uses.{use_fits}
use Rattle.msl_grammar.specs.ScriptGrammar.{a_container}
use Rattle.msl_grammar.proofs.Exits.{is_err}
use Rattle.msl_data_read.proofs.ProgramLeaves.{line_refused, line_unfit}
use Rattle.msl_data_read.proofs.scope.Scope.container.Goals as goal

pub returns-in_err-line-clause-read : goal.returns-in_err-line-clause-read
returns-in_err-line-clause-read c =
    let m = c.args.self.now.known.now in
    let p = c.args.self.now.program.now in
    let u = c.args.used.now in
    rw (is_err c.from_residual.result c.from_residual.ensures.1)
    (λ k. line_refused p c.args.need Width u.at (λ shape. use_fits m.funs u (given c.args.for_array c.args.for_matrix shape)) k (a_container m p u c.args.need c.args.for_array c.args.for_matrix k) (λ t behind. refl)
    c.args.c.now c.in-Some.name.now c.in-Some.ensures.name _ c.in_err-line.ensures.tested)

pub returns-then-not-use_fits-clause-read : goal.returns-then-not-use_fits-clause-read
returns-then-not-use_fits-clause-read c =
    let m = c.args.self.now.known.now in
    let p = c.args.self.now.program.now in
    let u = c.args.used.now in
    let shape = c.given.ensures ∙ ap (λ l. given c.args.for_array c.args.for_matrix l.1) c.in_ok-line.ensures.found in
    λ k. line_unfit p c.args.need Width u.at (λ shape. use_fits m.funs u (given c.args.for_array c.args.for_matrix shape)) k (a_container m p u c.args.need c.args.for_array c.args.for_matrix k) (λ t behind. refl)
    c.args.c.now c.in-Some.name.now c.in-Some.ensures.name c.in_ok-line.ensures.tested
    (ap (use_fits m.funs u) (sym shape) ∙ sym c.use_fits.ensures ∙ c.if-not-use_fits.true)
