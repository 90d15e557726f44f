use Rattle.std.proofs.Common.{◌≡◌, map, length, take}
use Rattle.msl_program.specs.Data.{argument}
use Rattle.msl_data.specs.Tables.{values_of}
use Rattle.msl_data.proofs.table.Table.arguments.Given as goal

abbrev pub invariant-loop-i : goal.invariant-loop-i
invariant-loop-i l = (length l.numbers ≡ 16) × (take l.i l.numbers ≡ map (argument (values_of l.self)) (take l.i l.args))
