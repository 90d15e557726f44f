use Rattle.std.proofs.Common.{arith, length, ap}
use Rattle.std.proofs.lemmas.Fmt.{length-decimal-le}
use Rattle.msl_io.proofs.piece.Piece.push_number.Goals.{then-x-lt0, else-x-lt0}
use Rattle.msl_io.proofs.piece.Piece.push_number.Goals as goal

pub push_digits-requires : goal.push_digits-requires
push_digits-requires c =
    let short = length-decimal-le 19 c.unsigned_abs.result (omega arith) (omega (arith, c.unsigned_abs.ensures.bound)) (omega (arith, c.unsigned_abs.ensures.bound)) in
    elim c.if-x-lt0.branch [
      | then-x-lt0 w ↦ omega (arith, short, ap length w.self-is, w.push.ensures.size)
      | else-x-lt0 w ↦ omega (arith, short, ap length w.self-is)
    ]

pub returns-clause-short : goal.returns-clause-short
returns-clause-short c =
    let short = length-decimal-le 19 c.unsigned_abs.result (omega arith) (omega (arith, c.unsigned_abs.ensures.bound)) (omega (arith, c.unsigned_abs.ensures.bound)) in
    elim c.if-x-lt0.branch [
      | then-x-lt0 w ↦ omega (arith, short, c.push_digits.ensures.size, ap length w.self-is, w.push.ensures.size)
      | else-x-lt0 w ↦ omega (arith, short, c.push_digits.ensures.size, ap length w.self-is)
    ]
