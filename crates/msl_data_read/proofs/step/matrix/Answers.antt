use Rattle.msl_grammar.proofs.Exits.{is_err}
use Rattle.msl_data_read.proofs.step.matrix.Goals as goal

pub returns-in_err-rows-clause-read : goal.returns-in_err-rows-clause-read
returns-in_err-rows-clause-read c = rw (is_err c.from_residual.result c.from_residual.ensures.1) (λ k. c.in_err-rows.ensures.read _)

pub returns-in_err-cols-clause-read : goal.returns-in_err-cols-clause-read
returns-in_err-cols-clause-read c = rw (is_err c.from_residual-in_err-cols.result c.from_residual-in_err-cols.ensures.1) (λ k. simp (c.in_ok-rows.ensures.read) (c.in_err-cols.ensures.read _))

pub returns-in_err-quoted-clause-read : goal.returns-in_err-quoted-clause-read
returns-in_err-quoted-clause-read c = rw (is_err c.from_residual-in_err-quoted.result c.from_residual-in_err-quoted.ensures.1) (λ k. simp (c.in_ok-rows.ensures.read, c.in_ok-cols.ensures.read) (c.in_err-quoted.ensures.read _))

pub returns-in_err-grid_rows-clause-read : goal.returns-in_err-grid_rows-clause-read
returns-in_err-grid_rows-clause-read c = rw (is_err c.from_residual-in_err-grid_rows.result c.from_residual-in_err-grid_rows.ensures.1) (λ k. simp (c.in_ok-rows.ensures.read, c.in_ok-cols.ensures.read, c.in_ok-quoted.ensures.read) (c.in_err-grid_rows.ensures.read _))

pub returns-in_err-grid_cols-clause-read : goal.returns-in_err-grid_cols-clause-read
returns-in_err-grid_cols-clause-read c = rw (is_err c.from_residual-in_err-grid_cols.result c.from_residual-in_err-grid_cols.ensures.1) (λ k. simp (c.in_ok-rows.ensures.read, c.in_ok-cols.ensures.read, c.in_ok-quoted.ensures.read) (simp (c.in_ok-grid_rows.ensures.read) (c.in_err-grid_cols.ensures.read _)))

pub returns-in_err-quoted-2-clause-read : goal.returns-in_err-quoted-2-clause-read
returns-in_err-quoted-2-clause-read c = rw (is_err c.from_residual-in_err-quoted-2.result c.from_residual-in_err-quoted-2.ensures.1) (λ k. simp (c.in_ok-rows.ensures.read, c.in_ok-cols.ensures.read, c.in_ok-quoted.ensures.read) (simp (c.in_ok-grid_rows.ensures.read, c.in_ok-grid_cols.ensures.read) (c.in_err-quoted-2.ensures.read _)))

pub returns-in_err-at-clause-read : goal.returns-in_err-at-clause-read
returns-in_err-at-clause-read c = rw (is_err c.from_residual-in_err-at.result c.from_residual-in_err-at.ensures.1) (λ k. simp (c.in_ok-rows.ensures.read, c.in_ok-cols.ensures.read, c.in_ok-quoted.ensures.read) (simp (c.in_ok-grid_rows.ensures.read, c.in_ok-grid_cols.ensures.read, c.in_ok-quoted-2.ensures.read) (c.in_err-at.ensures.read _)))
