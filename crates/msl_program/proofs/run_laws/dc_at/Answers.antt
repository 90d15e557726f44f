use Rattle.msl_program.proofs.AlongLaws.{by_parts, deepest_simple}
use Rattle.msl_program.proofs.run_laws.dc_at.Goals as goal

pub returns : goal.returns
returns c = record { inner = by_parts; deepest = deepest_simple }
