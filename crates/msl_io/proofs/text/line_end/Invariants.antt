use Rattle.std.proofs.Common.{take}
use Rattle.msl_io.specs.Lines.{HasNoLf}
use Rattle.msl_io.proofs.text.line_end.Given as goal

abbrev pub invariant-loop-i : goal.invariant-loop-i
invariant-loop-i l = HasNoLf (take l.i l.bytes)
