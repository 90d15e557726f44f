use Rattle.std.proofs.Common.{length, ◌-◌}
use Rattle.msl_stage.proofs.run.Run.+finish.Given as goal

abbrev pub decreases-finish : goal.decreases-finish
decreases-finish g l = length l.self.now.steps.items - l.at
