use Rattle.std.proofs.Common.{◌∙◌}
use Rattle.msl_base.specs.Names.{Text}
use Rattle.msl_grammar.specs.Clauses.{filter_clauses}
use Rattle.msl_grammar.proofs.Exits.{is_err}
use Rattle.msl_grammar.specs.declared.filter.FilterClauses.{FilterClauses}
use Rattle.msl_grammar.proofs.known.Known.filter.Goals as goal

pub returns-in_err-name-clause-read : goal.returns-in_err-name-clause-read
returns-in_err-name-clause-read c = rw (is_err c.from_residual.result c.from_residual.ensures.1) (λ k. c.in_err-name.ensures.read _)

pub returns-in_err-f-clause-read : goal.returns-in_err-f-clause-read
returns-in_err-f-clause-read c = rw (is_err c.from_residual-in_err-f.result c.from_residual-in_err-f.ensures.1) (λ k. simp (c.in_ok-name.ensures.read) (c.in_err-f.ensures.read (λ (f : FilterClauses). k (record { name = c.in_ok-name.name; state = f.state; count = f.count; item = f.item; next = f.next; flush = f.flush; last = f.last }))))

pub returns-clause-read : goal.returns-clause-read
returns-clause-read c =
    λ k. c.in_ok-name.ensures.read (λ (n : Text). filter_clauses c.args.self.now (λ (f : FilterClauses). k (record { name = n; state = f.state; count = f.count; item = f.item; next = f.next; flush = f.flush; last = f.last })))
    ∙ c.in_ok-f.ensures.read (λ (f : FilterClauses). k (record { name = c.in_ok-name.name; state = f.state; count = f.count; item = f.item; next = f.next; flush = f.flush; last = f.last }))
