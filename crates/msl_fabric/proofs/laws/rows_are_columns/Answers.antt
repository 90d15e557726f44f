use Rattle.msl_fabric.proofs.Rows.{row-got, column-got}
use Rattle.msl_fabric.proofs.laws.rows_are_columns.Goals as goal

pub returns : goal.returns
returns c = record { row = λ out got i lt h. row-got out got h i lt; column = λ out got j lt h. column-got out got h j lt }
