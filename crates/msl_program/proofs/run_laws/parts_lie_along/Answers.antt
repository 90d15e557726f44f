use Rattle.msl_program.proofs.AlongLaws.{goes_along, parts_along, has_all_parts}
use Rattle.msl_program.proofs.run_laws.parts_lie_along.Goals as goal

pub returns : goal.returns
returns c = record { step = goes_along; parts = parts_along; all = has_all_parts }
