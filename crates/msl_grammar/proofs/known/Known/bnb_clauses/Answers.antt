use Rattle.msl_grammar.proofs.Exits.{is_err}
use Rattle.msl_grammar.proofs.known.Known.bnb_clauses.Goals as goal

pub returns-in_err-quoted-clause-read : goal.returns-in_err-quoted-clause-read
returns-in_err-quoted-clause-read c = rw (is_err c.from_residual.result c.from_residual.ensures.1) (λ k. c.in_err-quoted.ensures.read _)

pub returns-in_err-bound-clause-read : goal.returns-in_err-bound-clause-read
returns-in_err-bound-clause-read c = rw (is_err c.from_residual-in_err-bound.result c.from_residual-in_err-bound.ensures.1) (λ k. simp (c.in_ok-quoted.ensures.read) (c.in_err-bound.ensures.read _))

pub returns-in_err-solved-clause-read : goal.returns-in_err-solved-clause-read
returns-in_err-solved-clause-read c = rw (is_err c.from_residual-in_err-solved.result c.from_residual-in_err-solved.ensures.1) (λ k. simp (c.in_ok-quoted.ensures.read, c.in_ok-bound.ensures.read) (simp (← c.params-p.ensures.params) (c.in_err-solved.ensures.read _)))

pub returns-in_err-value-clause-read : goal.returns-in_err-value-clause-read
returns-in_err-value-clause-read c = rw (is_err c.from_residual-in_err-value.result c.from_residual-in_err-value.ensures.1) (λ k. simp (c.in_ok-quoted.ensures.read, c.in_ok-bound.ensures.read) (simp (← c.params-p.ensures.params, c.in_ok-solved.ensures.read) (c.in_err-value.ensures.read _)))

pub returns-in_err-count-clause-read : goal.returns-in_err-count-clause-read
returns-in_err-count-clause-read c = rw (is_err c.from_residual-in_err-count.result c.from_residual-in_err-count.ensures.1) (λ k. simp (c.in_ok-quoted.ensures.read, c.in_ok-bound.ensures.read) (simp (← c.params-p.ensures.params, c.in_ok-solved.ensures.read, c.in_ok-value.ensures.read) (c.in_err-count.ensures.read _)))

pub returns-in_err-branch-clause-read : goal.returns-in_err-branch-clause-read
returns-in_err-branch-clause-read c = rw (is_err c.from_residual-in_err-branch.result c.from_residual-in_err-branch.ensures.1) (λ k. simp (c.in_ok-quoted.ensures.read, c.in_ok-bound.ensures.read) (simp (← c.params-p.ensures.params, c.in_ok-solved.ensures.read, c.in_ok-value.ensures.read) (simp (c.in_ok-count.ensures.read) (c.in_err-branch.ensures.read _))))

pub returns-in_err-quoted-2-clause-read : goal.returns-in_err-quoted-2-clause-read
returns-in_err-quoted-2-clause-read c = rw (is_err c.from_residual-in_err-quoted-2.result c.from_residual-in_err-quoted-2.ensures.1) (λ k. simp (c.in_ok-quoted.ensures.read, c.in_ok-bound.ensures.read) (simp (← c.params-p.ensures.params, c.in_ok-solved.ensures.read, c.in_ok-value.ensures.read) (simp (c.in_ok-count.ensures.read, c.in_ok-branch.ensures.read) (c.in_err-quoted-2.ensures.read _))))
