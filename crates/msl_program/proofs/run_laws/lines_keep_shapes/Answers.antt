use Rattle.msl_program.proofs.ShapeLaws.{lines_have_shapes, steps_keep_shapes, programs_keep_shapes}
use Rattle.msl_program.proofs.run_laws.lines_keep_shapes.Goals as goal

pub returns : goal.returns
returns c = record { lines = lines_have_shapes; steps = steps_keep_shapes; programs = programs_keep_shapes }
