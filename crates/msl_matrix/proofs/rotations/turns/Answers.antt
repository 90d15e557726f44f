use Rattle.std.proofs.Common.{◌≡◌, ◌+◌, ℕ, pos, [], ◌∷◌, subst, arith}
use Rattle.msl_lists.specs.Whole.{at_stage, function_of}
use Rattle.msl_local.specs.Outcomes.{Comes, ComesTo}
use Rattle.msl_local.proofs.Outcomes.{led_each, whole}
use Rattle.msl_matrix.proofs.rotations.turns.Goals as goal

pub returns : goal.returns
returns c =
    let f = λ (s : ℕ). at_stage c.args.stage (function_of c.args.u.now (pos s ∷ [])) in
    let n = c.args.n in
    subst (λ want. Comes want c.in_turn.result) (whole f n)
    (led_each f 0 n (λ k q. ComesTo (f k) q) c.in_turn.result c.in_turn.ensures.led (λ k q lt p. let e : k ≡ 0 + k = omega arith in subst (λ j. ComesTo (f j) q) e p))
