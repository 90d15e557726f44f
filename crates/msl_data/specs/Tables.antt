-- What the values of lines are to contracts.
use Rattle.std.specs.Prelude.{◌≡◌, map, Result, Ok, Err}
use Rattle.msl_base.specs.declared.fault.Fault.{Fault}
use Rattle.msl_base.specs.declared.answer.Halt.{Halt}
use Rattle.msl_local.specs.Outcomes.{Stops}
use Rattle.msl_program.specs.Data as program
use Rattle.msl_data.specs.declared.table.Value.{Value}
use Rattle.msl_data.specs.declared.table.Value.TheVariants.{Array, Matrix, Number}
use Rattle.msl_data.specs.declared.table.Container.{Container}
use Rattle.msl_data.specs.declared.table.Container.TheVariants as container
use Rattle.msl_data.specs.declared.table.Table.{Table}

abbrev pub meaning : Value → program.Value
meaning (Array d) = program.list d.blocks d.elements
meaning (Matrix d) = program.matrix d.extent d.elements
meaning (Number z) = program.number z

abbrev pub held : Container → program.Value
held (container.Array d) = program.list d.now.blocks d.now.elements
held (container.Matrix d) = program.matrix d.now.extent d.now.elements

abbrev pub values_of : Table → program.Table
values_of t = map meaning t.values.items

-- the value that is wanted, or its halt
abbrev pub ComesAs : Result program.Value Fault → Result Value Halt → Type 0
ComesAs want (Ok v) = want ≡ Ok (meaning v)
ComesAs want (Err h) = Stops want h

-- the values that are wanted, or their halt
abbrev pub TableComes : Result program.Table Fault → Result Table Halt → Type 0
TableComes want (Ok t) = want ≡ Ok (values_of t)
TableComes want (Err h) = Stops want h
