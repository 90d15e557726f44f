use Rattle.std.proofs.Common.{◌≡◌, ◌≤◌, length, take, drop}
use Rattle.msl_fun.specs.Budget.{spend, values_over}
use Rattle.msl_fun.specs.Evaluable.{AreEvaluable}
use Rattle.msl_fun.proofs.Results.{behind_over}
use Rattle.msl_fun.proofs.muscle.evaluate.Given as goal

-- the results that are left, behind those that there are
abbrev pub invariant-loop-i : goal.invariant-loop-i
invariant-loop-i l = record {
  scope : l.scope ≡ l.initial.scope;
  within : l.spent ≤ 10000000;
  fits : AreEvaluable l.known (length l.initial.scope) (drop l.i l.results);
  spent : spend l.spent (behind_over l.known (take l.i l.out) (drop l.i l.results) l.initial.scope) ≡ spend 0 (values_over l.known l.results l.initial.scope);
}
