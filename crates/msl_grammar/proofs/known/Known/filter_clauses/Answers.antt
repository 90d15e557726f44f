use Rattle.msl_grammar.proofs.Exits.{is_err}
use Rattle.msl_grammar.proofs.known.Known.filter_clauses.Goals as goal

pub returns-in_err-quoted-clause-read : goal.returns-in_err-quoted-clause-read
returns-in_err-quoted-clause-read c = rw (is_err c.from_residual.result c.from_residual.ensures.1) (λ k. c.in_err-quoted.ensures.read _)

pub returns-in_err-quoted-2-clause-read : goal.returns-in_err-quoted-2-clause-read
returns-in_err-quoted-2-clause-read c = rw (is_err c.from_residual-in_err-quoted-2.result c.from_residual-in_err-quoted-2.ensures.1) (λ k. simp (c.in_ok-quoted.ensures.read) (c.in_err-quoted-2.ensures.read _))

pub returns-in_err-state-clause-read : goal.returns-in_err-state-clause-read
returns-in_err-state-clause-read c = rw (is_err c.from_residual-in_err-state.result c.from_residual-in_err-state.ensures.1) (λ k. simp (c.in_ok-quoted.ensures.read) (simp (c.in_ok-quoted-2.ensures.read) (c.in_err-state.ensures.read _)))

pub returns-in_err-count-clause-read : goal.returns-in_err-count-clause-read
returns-in_err-count-clause-read c = rw (is_err c.from_residual-in_err-count.result c.from_residual-in_err-count.ensures.1) (λ k. simp (c.in_ok-quoted.ensures.read) (simp (c.in_ok-quoted-2.ensures.read, c.in_ok-state.ensures.read) (simp (← c.as_slice-n.ensures.numbers) (c.in_err-count.ensures.read _))))

pub returns-in_err-item-clause-read : goal.returns-in_err-item-clause-read
returns-in_err-item-clause-read c = rw (is_err c.from_residual-in_err-item.result c.from_residual-in_err-item.ensures.1) (λ k. simp (c.in_ok-quoted.ensures.read) (simp (c.in_ok-quoted-2.ensures.read, c.in_ok-state.ensures.read) (simp (← c.as_slice-n.ensures.numbers, c.in_ok-count.ensures.read) (simp (← c.params-p.ensures.params) (c.in_err-item.ensures.read _)))))

pub returns-in_err-next-clause-read : goal.returns-in_err-next-clause-read
returns-in_err-next-clause-read c = rw (is_err c.from_residual-in_err-next.result c.from_residual-in_err-next.ensures.1) (λ k. simp (c.in_ok-quoted.ensures.read) (simp (c.in_ok-quoted-2.ensures.read, c.in_ok-state.ensures.read) (simp (← c.as_slice-n.ensures.numbers, c.in_ok-count.ensures.read) (simp (← c.params-p.ensures.params, c.in_ok-item.ensures.read) (c.in_err-next.ensures.read _)))))

pub returns-in_err-flush-clause-read : goal.returns-in_err-flush-clause-read
returns-in_err-flush-clause-read c = rw (is_err c.from_residual-in_err-flush.result c.from_residual-in_err-flush.ensures.1) (λ k. simp (c.in_ok-quoted.ensures.read) (simp (c.in_ok-quoted-2.ensures.read, c.in_ok-state.ensures.read) (simp (← c.as_slice-n.ensures.numbers, c.in_ok-count.ensures.read) (simp (← c.params-p.ensures.params, c.in_ok-item.ensures.read) (simp (c.in_ok-next.ensures.read) (c.in_err-flush.ensures.read _))))))

pub returns-in_err-last-clause-read : goal.returns-in_err-last-clause-read
returns-in_err-last-clause-read c = rw (is_err c.from_residual-in_err-last.result c.from_residual-in_err-last.ensures.1) (λ k. simp (c.in_ok-quoted.ensures.read) (simp (c.in_ok-quoted-2.ensures.read, c.in_ok-state.ensures.read) (simp (← c.as_slice-n.ensures.numbers, c.in_ok-count.ensures.read) (simp (← c.params-p.ensures.params, c.in_ok-item.ensures.read) (simp (c.in_ok-next.ensures.read, c.in_ok-flush.ensures.read) (c.in_err-last.ensures.read _))))))

pub returns-in_err-quoted-3-clause-read : goal.returns-in_err-quoted-3-clause-read
returns-in_err-quoted-3-clause-read c = rw (is_err c.from_residual-in_err-quoted-3.result c.from_residual-in_err-quoted-3.ensures.1) (λ k. simp (c.in_ok-quoted.ensures.read) (simp (c.in_ok-quoted-2.ensures.read, c.in_ok-state.ensures.read) (simp (← c.as_slice-n.ensures.numbers, c.in_ok-count.ensures.read) (simp (← c.params-p.ensures.params, c.in_ok-item.ensures.read) (simp (c.in_ok-next.ensures.read, c.in_ok-flush.ensures.read) (simp (c.in_ok-last.ensures.read) (c.in_err-quoted-3.ensures.read _)))))))
