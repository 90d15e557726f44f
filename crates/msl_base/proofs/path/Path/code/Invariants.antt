use Rattle.std.proofs.Common.{◌≡◌, take}
use Rattle.msl_base.specs.Codes.{code}
use Rattle.msl_base.proofs.path.Path.code.Given as goal

abbrev pub invariant-loop-step : goal.invariant-loop-step
invariant-loop-step l = l.code ≡ code l.bits (take l.step-index l.steps)
