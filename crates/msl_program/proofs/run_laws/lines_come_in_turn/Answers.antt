use Rattle.msl_program.proofs.LineLaws.{lines_fit, programs_grow, tables_grow}
use Rattle.msl_program.proofs.run_laws.lines_come_in_turn.Goals as goal

pub returns : goal.returns
returns c = record { fit = lines_fit; programs = programs_grow; tables = tables_grow }
