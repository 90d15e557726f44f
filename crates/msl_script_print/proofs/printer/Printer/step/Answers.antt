use Rattle.msl_script_print.proofs.printer.Printer.step.Goals as goal

pub returns-in-Matrix : goal.returns-in-Matrix
returns-in-Matrix c = rw c.in-Matrix.is c.words-in-Matrix.ensures

pub returns-in-MapIndex : goal.returns-in-MapIndex
returns-in-MapIndex c = rw c.in-MapIndex.is c.one-in-MapIndex.ensures

pub returns-in-ZipIndex : goal.returns-in-ZipIndex
returns-in-ZipIndex c = rw c.in-ZipIndex.is c.two-in-ZipIndex.ensures

pub returns-in-PermutePartition : goal.returns-in-PermutePartition
returns-in-PermutePartition c = rw c.in-PermutePartition.is c.one-in-PermutePartition.ensures

pub returns-in-BroadcastPartition : goal.returns-in-BroadcastPartition
returns-in-BroadcastPartition c = rw c.in-BroadcastPartition.is (rw c.name_at.ensures at c.words-in-BroadcastPartition.ensures)
