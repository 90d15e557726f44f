use Rattle.msl_program.proofs.Later.{filter_later, divcon_later, search_later, program_later}
use Rattle.msl_program.proofs.run_laws.conditions_last.Goals as goal

pub returns : goal.returns
returns c = record { programs = program_later; filters = filter_later; divcons = divcon_later; searches = search_later }
