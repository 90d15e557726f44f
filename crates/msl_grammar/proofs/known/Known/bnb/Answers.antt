use Rattle.std.proofs.Common.{◌∙◌}
use Rattle.msl_base.specs.Names.{Text}
use Rattle.msl_grammar.specs.Clauses.{bnb_clauses}
use Rattle.msl_grammar.proofs.Exits.{is_err}
use Rattle.msl_grammar.specs.declared.bnb.BnbClauses.{BnbClauses}
use Rattle.msl_grammar.proofs.known.Known.bnb.Goals as goal

pub returns-in_err-name-clause-read : goal.returns-in_err-name-clause-read
returns-in_err-name-clause-read c = rw (is_err c.from_residual.result c.from_residual.ensures.1) (λ k. c.in_err-name.ensures.read _)

pub returns-in_err-b-clause-read : goal.returns-in_err-b-clause-read
returns-in_err-b-clause-read c = rw (is_err c.from_residual-in_err-b.result c.from_residual-in_err-b.ensures.1) (λ k. simp (c.in_ok-name.ensures.read) (c.in_err-b.ensures.read (λ (b : BnbClauses). k (record { name = c.in_ok-name.name; bound = b.bound; solved = b.solved; value = b.value; count = b.count; branch = b.branch }))))

pub returns-clause-read : goal.returns-clause-read
returns-clause-read c =
    λ k. c.in_ok-name.ensures.read (λ (n : Text). bnb_clauses c.args.self.now (λ (b : BnbClauses). k (record { name = n; bound = b.bound; solved = b.solved; value = b.value; count = b.count; branch = b.branch })))
    ∙ c.in_ok-b.ensures.read (λ (b : BnbClauses). k (record { name = c.in_ok-name.name; bound = b.bound; solved = b.solved; value = b.value; count = b.count; branch = b.branch }))
