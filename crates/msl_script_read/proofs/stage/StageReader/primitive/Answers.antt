use Rattle.msl_script_read.proofs.stage.StageReader.primitive.Goals as goal

pub returns-then-says-clause-read : goal.returns-then-says-clause-read
returns-then-says-clause-read c = c.atomic_stage.ensures.read c.args.nest

pub returns-then-says-3-clause-read : goal.returns-then-says-3-clause-read
returns-then-says-3-clause-read c = c.data_stage.ensures.read c.args.nest

pub returns-then-says-4-clause-read : goal.returns-then-says-4-clause-read
returns-then-says-4-clause-read c = c.divcon_stage.ensures.read c.args.nest

pub returns-then-says-5-clause-read : goal.returns-then-says-5-clause-read
returns-then-says-5-clause-read c = c.bnb_stage.ensures.read c.args.nest
