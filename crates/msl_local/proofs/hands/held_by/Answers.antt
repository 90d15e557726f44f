use Rattle.std.proofs.Common.{◌+◌, ◌≤◌, arith}
use Rattle.msl_local.proofs.Blocks.{begin_next, begin_within}
use Rattle.msl_local.proofs.hands.held_by.Goals as goal

pub returns-clause-order : goal.returns-clause-order
returns-clause-order c = omega (arith, begin_next c.args.n c.args.hands c.args.h, c.bounds.ensures, c.bounds-2.ensures)

pub returns-clause-within : goal.returns-clause-within
returns-clause-within c =
    let some : 1 ≤ c.args.hands = omega (arith, c.requires.within) in
    omega (arith, begin_within c.args.n c.args.hands (c.args.h + 1) some (omega (arith, c.requires.within)), c.bounds-2.ensures)
