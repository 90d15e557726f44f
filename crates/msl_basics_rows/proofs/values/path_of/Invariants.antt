use Rattle.msl_base.specs.Codes.{AreFields}
use Rattle.msl_basics_rows.proofs.values.path_of.Given as goal

abbrev pub invariant-loop-step : goal.invariant-loop-step
invariant-loop-step l = AreFields l.bits l.path
