use Rattle.std.proofs.Common.{length}
use Rattle.msl_lex.proofs.Orders.{tokens_in_order, all_within, closes_last}
use Rattle.msl_lex.proofs.laws.tokens_are_in_order.Goals as goal

pub returns-clause-order : goal.returns-clause-order
returns-clause-order c = tokens_in_order c.args.text.now c.args.tokens.now c.requires

pub returns-clause-within : goal.returns-clause-within
returns-clause-within c = all_within 0 (length c.args.text.now) c.args.tokens.now (tokens_in_order c.args.text.now c.args.tokens.now c.requires)

pub returns-clause-close : goal.returns-clause-close
returns-clause-close c = closes_last 0 (length c.args.text.now) c.args.tokens.now (tokens_in_order c.args.text.now c.args.tokens.now c.requires)
