use Rattle.std.proofs.Common.{sym, ◌∙◌, rules}
use Rattle.msl_grammar.proofs.Exits.{is_err}
use Rattle.msl_data_read.proofs.ProgramLeaves.{no_modulus_most}
use Rattle.msl_data_read.proofs.operator.operator_of.Goals as goal

pub returns-in_err-modulus-clause-read : goal.returns-in_err-modulus-clause-read
returns-in_err-modulus-clause-read c =
    rw (is_err c.from_residual.result c.from_residual.ensures.1) (λ k. rw (sym c.has_modulus.ensures ∙ c.if-has_modulus.true) (c.in_err-modulus.ensures.read _))

pub invariant_of-result-else-has_modulus : goal.invariant_of-result-else-has_modulus
invariant_of-result-else-has_modulus c =
    let most = no_modulus_most c.args.kind (sym c.has_modulus.ensures ∙ c.if-has_modulus.false) in
    rw most (search rules)
