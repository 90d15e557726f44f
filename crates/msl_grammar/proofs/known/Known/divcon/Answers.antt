use Rattle.std.proofs.Common.{◌∙◌}
use Rattle.msl_base.specs.Names.{Text}
use Rattle.msl_grammar.specs.Clauses.{divcon_clauses}
use Rattle.msl_grammar.proofs.Exits.{is_err}
use Rattle.msl_grammar.specs.declared.divcon.DivConClauses.{DivConClauses}
use Rattle.msl_grammar.proofs.known.Known.divcon.Goals as goal

pub returns-in_err-name-clause-read : goal.returns-in_err-name-clause-read
returns-in_err-name-clause-read c = rw (is_err c.from_residual.result c.from_residual.ensures.1) (λ k. c.in_err-name.ensures.read _)

pub returns-in_err-d-clause-read : goal.returns-in_err-d-clause-read
returns-in_err-d-clause-read c = rw (is_err c.from_residual-in_err-d.result c.from_residual-in_err-d.ensures.1) (λ k. simp (c.in_ok-name.ensures.read) (c.in_err-d.ensures.read (λ (d : DivConClauses). k (record { name = c.in_ok-name.name; parts = d.parts; cutoff = d.cutoff; simple = d.simple; solve = d.solve; divide = d.divide; combine = d.combine }))))

pub returns-clause-read : goal.returns-clause-read
returns-clause-read c =
    λ k. c.in_ok-name.ensures.read (λ (n : Text). divcon_clauses c.args.self.now (λ (d : DivConClauses). k (record { name = n; parts = d.parts; cutoff = d.cutoff; simple = d.simple; solve = d.solve; divide = d.divide; combine = d.combine })))
    ∙ c.in_ok-d.ensures.read (λ (d : DivConClauses). k (record { name = c.in_ok-name.name; parts = d.parts; cutoff = d.cutoff; simple = d.simple; solve = d.solve; divide = d.divide; combine = d.combine }))
