use Rattle.std.proofs.Common.{rules, sym, ◌∙◌, FitsSigned, w64, to_z-of_z}
use Rattle.msl_program.specs.declared.data.Arg.TheVariants as arg
use Rattle.msl_grammar.specs.ScriptGrammar.{reading}
use Rattle.msl_grammar.proofs.Exits.{is_err}
use Rattle.msl_data_read.proofs.ProgramLeaves.{arg_unnamed, arg_refused, arg_named}
use Rattle.msl_data_read.proofs.scope.Scope.arg.Goals as goal

pub returns-in_err-integer-clause-read : goal.returns-in_err-integer-clause-read
returns-in_err-integer-clause-read c =
    rw (is_err c.from_residual.result c.from_residual.ensures.1)
    (λ k. rw (arg_unnamed c.args.self.now.program.now k c.args.c.now c.in_default.ensures.name) (c.in_err-integer.ensures.read (λ z. k (arg.Lit z))))

pub returns-in_default-clause-read : goal.returns-in_default-clause-read
returns-in_default-clause-read c = λ k.
    let fits : FitsSigned w64 c.in_ok-integer.field-0 = search rules in
    rw (to_z-of_z fits, arg_unnamed c.args.self.now.program.now k c.args.c.now c.in_default.ensures.name) (c.in_ok-integer.ensures.read (λ z. k (arg.Lit z)))

pub returns-in_err-line-clause-read : goal.returns-in_err-line-clause-read
returns-in_err-line-clause-read c =
    rw (is_err c.from_residual-in_err-line.result c.from_residual-in_err-line.ensures.1)
    (λ k. arg_refused c.args.self.now.program.now k c.args.c.now c.in-Some.name.now _ c.in-Some.ensures.name c.in_err-line.ensures.tested)

pub returns-clause-read : goal.returns-clause-read
returns-clause-read c = λ k.
    arg_named c.args.self.now.program.now k c.args.c.now c.in-Some.name.now c.in-Some.ensures.name c.in_ok-line.ensures.tested
    ∙ (λ i. reading (sym c.advance.ensures i) (k (arg.Number (sym c.in_ok-line.ensures.found i).0)))
