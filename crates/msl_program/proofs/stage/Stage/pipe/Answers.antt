use Rattle.msl_program.proofs.StageShapes.{pipe_is}
use Rattle.msl_program.proofs.stage.Stage.pipe.Goals as goal

pub returns : goal.returns
returns c = pipe_is c.args.stages
