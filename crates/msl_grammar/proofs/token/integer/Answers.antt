use Rattle.std.proofs.Common.{rules, arith, sym, ◌≡◌, ◌-ℤ◌, pos, FitsSigned, w64, to_z-of_z}
use Rattle.std.specs.Prelude.{ℤ, neg_ℤ}
use Rattle.std.proofs.lemmas.Int.{ints}
use Rattle.msl_grammar.proofs.Exits.{is_err}
use Rattle.msl_grammar.proofs.Leaves.{positive, negative}
use Rattle.msl_grammar.proofs.token.integer.Goals as goal

opposite : (z : ℤ) → neg_ℤ z ≡ pos 0 -ℤ z
opposite z = omega (arith, ints)

pub returns-in_err-natural-clause-read : goal.returns-in_err-natural-clause-read
returns-in_err-natural-clause-read c =
    rw (is_err c.from_residual.result c.from_residual.ensures.1) (λ k. rw (negative k c.args.c.now (sym c.if-take.ensures.said), ← c.if-take.ensures.taken) (c.in_err-natural.ensures.read (λ z. k (neg_ℤ z))))

pub returns-in_ok-natural-clause-read : goal.returns-in_ok-natural-clause-read
returns-in_ok-natural-clause-read c = λ k.
    let v = c.in_ok-natural.field-0 in
    let fits : FitsSigned w64 v = search rules in
    let fits_too : FitsSigned w64 (pos 0 -ℤ v) = search rules in
    rw (to_z-of_z fits, to_z-of_z fits_too, negative k c.args.c.now (sym c.if-take.ensures.said), ← c.if-take.ensures.taken, ← opposite v) (c.in_ok-natural.ensures.read (λ z. k (neg_ℤ z)))

pub returns-in_err-natural-2-clause-read : goal.returns-in_err-natural-2-clause-read
returns-in_err-natural-2-clause-read c =
    rw (is_err c.from_residual-in_err-natural-2.result c.from_residual-in_err-natural-2.ensures.1) (λ k. rw (positive k c.args.c.now (sym c.if-take.ensures.said), ← c.if-take.ensures.taken) (c.in_err-natural-2.ensures.read k))

pub returns-in_ok-natural-2-clause-read : goal.returns-in_ok-natural-2-clause-read
returns-in_ok-natural-2-clause-read c = λ k.
    let fits : FitsSigned w64 c.in_ok-natural-2.field-0 = search rules in
    rw (to_z-of_z fits, positive k c.args.c.now (sym c.if-take.ensures.said), ← c.if-take.ensures.taken) (c.in_ok-natural-2.ensures.read k)
