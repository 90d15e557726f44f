use Rattle.std.proofs.Common.{◌≡◌, ◌+◌, ◌*◌, drop}
use Rattle.msl_fun.specs.Evaluable.{size_of, size_of_all}
use Rattle.msl_fun_print.specs.Writing.{seen}
use Rattle.msl_fun_print.proofs.Writings.{with_more}
use Rattle.msl_fun_print.proofs.text.Writer.+text.Given as goal

abbrev pub decreases-expr : goal.decreases-expr
decreases-expr l = 5 * size_of l.e.now

abbrev pub decreases-part : goal.decreases-part
decreases-part l = 5 * size_of l.e.now + 1

abbrev pub decreases-value : goal.decreases-value
decreases-value l = 5 * size_of l.e.now + 2

abbrev pub decreases-operand : goal.decreases-operand
decreases-operand l = 5 * size_of l.e.now + 2

abbrev pub decreases-prefixed : goal.decreases-prefixed
decreases-prefixed l = 5 * size_of l.a.now + 3

abbrev pub decreases-binary : goal.decreases-binary
decreases-binary l = 5 * size_of l.a.now + 5 * size_of l.b.now + 4

abbrev pub decreases-pair : goal.decreases-pair
decreases-pair l = 5 * size_of l.a.now + 5 * size_of l.b.now + 3

abbrev pub decreases-choice : goal.decreases-choice
decreases-choice l = 5 * size_of l.c.now + 5 * size_of l.a.now + 5 * size_of l.b.now + 2

abbrev pub decreases-binding : goal.decreases-binding
decreases-binding l = 5 * size_of l.a.now + 5 * size_of l.b.now + 3

abbrev pub decreases-looping : goal.decreases-looping
decreases-looping l = 5 * size_of l.n.now + 5 * size_of l.s.now + 5 * size_of l.e.now + 3

abbrev pub decreases-calling : goal.decreases-calling
decreases-calling l = 5 * size_of_all l.args.now + 1

abbrev pub decreases-list : goal.decreases-list
decreases-list l = 5 * size_of_all l.es.now

-- with those that are left, each behind a comma
abbrev pub invariant-list-loop-e : goal.invariant-list-loop-e
invariant-list-loop-e l = with_more l.known (drop l.e-index l.others) (seen l.self) ≡ with_more l.known l.others (seen l.initial.self)
