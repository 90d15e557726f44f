use Rattle.msl_grammar.proofs.Exits.{is_err}
use Rattle.msl_grammar.proofs.known.Known.divcon_clauses.Goals as goal

pub returns-in_err-quoted-clause-read : goal.returns-in_err-quoted-clause-read
returns-in_err-quoted-clause-read c = rw (is_err c.from_residual.result c.from_residual.ensures.1) (λ k. c.in_err-quoted.ensures.read _)

pub returns-in_err-parts-clause-read : goal.returns-in_err-parts-clause-read
returns-in_err-parts-clause-read c = rw (is_err c.from_residual-in_err-parts.result c.from_residual-in_err-parts.ensures.1) (λ k. simp (c.in_ok-quoted.ensures.read) (c.in_err-parts.ensures.read _))

pub returns-in_err-cutoff-clause-read : goal.returns-in_err-cutoff-clause-read
returns-in_err-cutoff-clause-read c = rw (is_err c.from_residual-in_err-cutoff.result c.from_residual-in_err-cutoff.ensures.1) (λ k. simp (c.in_ok-quoted.ensures.read) (simp (c.in_ok-parts.ensures.read) (c.in_err-cutoff.ensures.read _)))

pub returns-in_err-simple-clause-read : goal.returns-in_err-simple-clause-read
returns-in_err-simple-clause-read c = rw (is_err c.from_residual-in_err-simple.result c.from_residual-in_err-simple.ensures.1) (λ k. simp (c.in_ok-quoted.ensures.read) (simp (c.in_ok-parts.ensures.read, c.in_ok-cutoff.ensures.read) (c.in_err-simple.ensures.read _)))

pub returns-in_err-solve-clause-read : goal.returns-in_err-solve-clause-read
returns-in_err-solve-clause-read c = rw (is_err c.from_residual-in_err-solve.result c.from_residual-in_err-solve.ensures.1) (λ k. simp (c.in_ok-quoted.ensures.read) (simp (c.in_ok-parts.ensures.read, c.in_ok-cutoff.ensures.read) (simp (c.in_ok-simple.ensures.read, ← c.params-p.ensures.params) (c.in_err-solve.ensures.read _))))

pub returns-in_err-divide-clause-read : goal.returns-in_err-divide-clause-read
returns-in_err-divide-clause-read c = rw (is_err c.from_residual-in_err-divide.result c.from_residual-in_err-divide.ensures.1) (λ k. simp (c.in_ok-quoted.ensures.read) (simp (c.in_ok-parts.ensures.read, c.in_ok-cutoff.ensures.read) (simp (c.in_ok-simple.ensures.read, ← c.params-p.ensures.params) (simp (c.in_ok-solve.ensures.read) (c.in_err-divide.ensures.read _)))))

pub returns-in_err-combine-clause-read : goal.returns-in_err-combine-clause-read
returns-in_err-combine-clause-read c = rw (is_err c.from_residual-in_err-combine.result c.from_residual-in_err-combine.ensures.1) (λ k. simp (c.in_ok-quoted.ensures.read) (simp (c.in_ok-parts.ensures.read, c.in_ok-cutoff.ensures.read) (simp (c.in_ok-simple.ensures.read, ← c.params-p.ensures.params) (simp (c.in_ok-solve.ensures.read, c.in_ok-divide.ensures.read) (simp (← c.results-r.ensures.results) (c.in_err-combine.ensures.read _))))))

pub returns-in_err-quoted-2-clause-read : goal.returns-in_err-quoted-2-clause-read
returns-in_err-quoted-2-clause-read c = rw (is_err c.from_residual-in_err-quoted-2.result c.from_residual-in_err-quoted-2.ensures.1) (λ k. simp (c.in_ok-quoted.ensures.read) (simp (c.in_ok-parts.ensures.read, c.in_ok-cutoff.ensures.read) (simp (c.in_ok-simple.ensures.read, ← c.params-p.ensures.params) (simp (c.in_ok-solve.ensures.read, c.in_ok-divide.ensures.read) (simp (← c.results-r.ensures.results, c.in_ok-combine.ensures.read) (c.in_err-quoted-2.ensures.read _))))))
