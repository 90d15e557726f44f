use Rattle.std.proofs.Common.{◌∙◌}
use Rattle.msl_program.specs.declared.shape.Need.TheVariants as need
use Rattle.msl_grammar.specs.ScriptGrammar.{a_line}
use Rattle.msl_grammar.proofs.Exits.{is_err}
use Rattle.msl_data_read.proofs.scope.Scope.with_two.Goals as goal

pub returns-in_err-used-clause-read : goal.returns-in_err-used-clause-read
returns-in_err-used-clause-read c =
    rw (is_err c.from_residual.result c.from_residual.ensures.1) (λ k. c.in_err-used.ensures.read (λ r. a_line c.args.self.now.program.now (need.Like r.1.1) (λ o. k (r.0, r.1, o.0))))

pub returns-in_err-other-clause-read : goal.returns-in_err-other-clause-read
returns-in_err-other-clause-read c =
    rw (is_err c.from_residual-in_err-other.result c.from_residual-in_err-other.ensures.1)
    (λ k. rw (c.in_ok-used.ensures.read (λ r. a_line c.args.self.now.program.now (need.Like r.1.1) (λ o. k (r.0, r.1, o.0)))) (c.in_err-other.ensures.read _))

pub returns-clause-read : goal.returns-clause-read
returns-clause-read c = λ k.
    c.in_ok-used.ensures.read (λ r. a_line c.args.self.now.program.now (need.Like r.1.1) (λ o. k (r.0, r.1, o.0)))
    ∙ c.in_ok-other.ensures.read (λ o. k (c.in_ok-used.used, c.in_ok-used.line, o.0))
