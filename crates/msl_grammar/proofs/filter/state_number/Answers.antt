use Rattle.msl_grammar.proofs.FilterLeaves.{has_room, read_alike}
use Rattle.msl_grammar.specs.ScriptGrammar.{a_state_number, an_integer}
use Rattle.msl_grammar.proofs.filter.state_number.Goals as goal

pub returns-then-before-lt-MOST_STATE-clause-read : goal.returns-then-before-lt-MOST_STATE-clause-read
returns-then-before-lt-MOST_STATE-clause-read c = read_alike (a_state_number c.args.before.now) an_integer c.args.c.now _ (λ k. has_room c.args.before.now c.args.c.now k c.if-before-lt-MOST_STATE.true) c.integer.result c.integer.ensures.read

pub returns-else-before-lt-MOST_STATE-clause-read : goal.returns-else-before-lt-MOST_STATE-clause-read
returns-else-before-lt-MOST_STATE-clause-read c = c.no_room.ensures c.args.before.now c.if-before-lt-MOST_STATE.false
