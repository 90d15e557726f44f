use Rattle.std.proofs.Common.{◌≡◌, ◌++◌, take}
use Rattle.msl_fun.proofs.scope.Scope.extend.Given as goal

abbrev pub invariant-loop-x : goal.invariant-loop-x
invariant-loop-x l = l.self ≡ l.initial.self ++ take l.x-index l.xs
