use Rattle.std.proofs.Common.{ap, ◌∙◌}
use Rattle.msl_program.specs.declared.stage.Stage.{Stage}
use Rattle.msl_program.specs.declared.stage.Stage.TheVariants.{Farm}
use Rattle.msl_program.proofs.StageShapes.{farm_is}
use Rattle.msl_program.proofs.stage.Stage.farm.Goals as goal

pub returns : goal.returns
returns c = ap (λ (s : Stage). Farm c.args.workers s) c.in_ok-new.ensures ∙ farm_is c.args.workers c.args.stage
