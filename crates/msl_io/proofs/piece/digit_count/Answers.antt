use Rattle.std.proofs.Common.{arith, length, sym, ap}
use Rattle.std.proofs.lemmas.Fmt.{decimal_digit}
use Rattle.msl_io.proofs.Decimals.{length-decimal}
use Rattle.msl_io.proofs.piece.digit_count.Goals as goal

pub returns-in-Some : goal.returns-in-Some
returns-in-Some c = sym (length-decimal c.in-Some.power c.args.n c.in-Some.ensures.power_le c.in-Some.ensures.next_power_gt c.ranges.n.fits)

pub returns-in-None : goal.returns-in-None
returns-in-None c = sym (ap length (decimal_digit c.args.n (omega (arith, c.in-None.ensures.none))))
