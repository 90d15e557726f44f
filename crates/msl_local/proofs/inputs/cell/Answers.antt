use Rattle.std.proofs.Common.{sym, ◌∙◌, arith}
use Rattle.msl_local.specs.declared.inputs.Window.{Window}
use Rattle.msl_local.proofs.Windows.{at_row, at_col, area_at}
use Rattle.msl_local.proofs.inputs.cell.Goals as goal

abbrev none : Window
none = record { above = 0; below = 0; before = 0; behind = 0 }

pub returns-clause-row : goal.returns-clause-row
returns-clause-row c =
    let windows = c.args.windows.now in
    c.cell.ensures.row ∙ sym (at_row windows c.args.m c.args.k none c.requires.part (omega (arith, c.requires.inside, area_at windows c.args.m none c.requires.part)))

pub returns-clause-col : goal.returns-clause-col
returns-clause-col c =
    let windows = c.args.windows.now in
    c.cell.ensures.col ∙ sym (at_col windows c.args.m c.args.k none c.requires.part (omega (arith, c.requires.inside, area_at windows c.args.m none c.requires.part)))
