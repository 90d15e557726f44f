use Rattle.std.proofs.Common.{inr, arith}
use Rattle.msl_pool_rows.proofs.Holding.{splits}
use Rattle.msl_pool_rows.proofs.complete.CountSearch.work.Goals as goal

pub returns-clause-works : goal.returns-clause-works
returns-clause-works c =
    inr (splits _ _ 3 c.args.at.now.path c.args.held.now.items c.hold_children.new.held.items c.in_ok-hold_children.ensures (omega (arith, c.requires, c.if-at-ge-LEVELS.false)) (omega arith) (λ _ _ _. tt))
