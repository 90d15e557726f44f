use Rattle.std.proofs.Common.{◌≡◌, take}
use Rattle.msl_lex.specs.Bytes.{value_of_digits}
use Rattle.msl_read.proofs.cursor.number_of.Given as goal

abbrev pub invariant-loop-d : goal.invariant-loop-d
invariant-loop-d l = l.value ≡ value_of_digits (take l.d-index l.digits)
