use Rattle.std.proofs.Common.{◌≡◌, ◌+◌, ◌-◌, ◌≤◌, length, drop}
use Rattle.msl_fun.specs.Budget.{spend, calling_over, rest_over, turns_over}
use Rattle.msl_fun.specs.Evaluable.{AreEvaluable, size_of, size_of_all, size_of_funs}
use Rattle.msl_fun.proofs.eval.+value.Given as goal

abbrev pub decreases-value : goal.decreases-value
decreases-value l = size_of_funs l.known.now + size_of l.e.now

abbrev pub decreases-minus : goal.decreases-minus
decreases-minus l = size_of_funs l.known.now + size_of l.a.now + 1

abbrev pub decreases-opposite : goal.decreases-opposite
decreases-opposite l = size_of_funs l.known.now + size_of l.a.now + 1

abbrev pub decreases-binary : goal.decreases-binary
decreases-binary l = size_of_funs l.known.now + size_of l.a.now + size_of l.b.now

abbrev pub decreases-choice : goal.decreases-choice
decreases-choice l = size_of_funs l.known.now + size_of l.c.now + size_of l.a.now + size_of l.b.now

abbrev pub decreases-binding : goal.decreases-binding
decreases-binding l = size_of_funs l.known.now + size_of l.a.now + size_of l.b.now

abbrev pub decreases-looping : goal.decreases-looping
decreases-looping l = size_of_funs l.known.now + size_of l.n.now + size_of l.s.now + size_of l.e.now

abbrev pub decreases-calling : goal.decreases-calling
decreases-calling l = size_of_funs l.known.now + size_of_all l.args.now

-- the arguments that are left, behind those that there are
abbrev pub invariant-calling-loop-arg : goal.invariant-calling-loop-arg
invariant-calling-loop-arg l = record {
  scope : l.scope ≡ l.initial.scope;
  inner : length l.inner ≡ l.arg-index;
  fits : AreEvaluable l.known (length l.initial.scope) (drop l.arg-index l.args);
  spent : spend l.spent (rest_over l.known l.f l.inner (drop l.arg-index l.args) l.initial.scope)
      ≡ spend l.initial.spent (calling_over l.known l.f l.args l.initial.scope);
}

-- the turns that are left
abbrev pub invariant-looping-loop-i : goal.invariant-looping-loop-i
invariant-looping-loop-i l = record {
  scope : l.scope ≡ l.initial.scope;
  within : l.spent ≤ 10000000;
  spent : spend l.spent (turns_over l.known l.e l.initial.scope (l.count - l.i) l.i l.last)
      ≡ spend l.initial.spent (turns_over l.known l.e l.initial.scope l.count 0 l.initial.last);
}
