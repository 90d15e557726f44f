use Rattle.std.proofs.Common.{arith}
use Rattle.std.proofs.lemmas.Fmt.{length-decimal-le}
use Rattle.msl_io.proofs.piece.Piece.push_decimal.Goals as goal

pub push_digits-requires : goal.push_digits-requires
push_digits-requires c = omega (arith, length-decimal-le 20 c.args.n (omega arith) (omega arith) c.ranges.n.fits)

pub returns-clause-short : goal.returns-clause-short
returns-clause-short c = omega (arith, c.push_digits.ensures.size, length-decimal-le 20 c.args.n (omega arith) (omega arith) c.ranges.n.fits)

pub returns-clause-small : goal.returns-clause-small
returns-clause-small c = λ lt. omega (arith, c.push_digits.ensures.size, length-decimal-le 2 c.args.n (omega arith) lt c.ranges.n.fits)
