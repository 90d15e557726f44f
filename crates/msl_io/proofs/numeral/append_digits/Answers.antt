use Rattle.std.proofs.Common.{rules, get_or}
use Rattle.std.specs.Int.{IsInRange}
use Rattle.msl_io.proofs.Digits.{magnitude_more, front_more}
use Rattle.msl_io.proofs.numeral.append_digits.Goals as goal

pub loop-i-preserved : goal.loop-i-preserved
loop-i-preserved c =
    let text = c.args.text.now in
    let is : IsInRange 48 57 (get_or text c.loop-i.i 0) = search rules in
    record {
      value = λ ds e. magnitude_more ds text c.loop-i.i c.loop-i.magnitude c.append_digit-magnitude.result c.loop-i-test.true is c.append_digit-magnitude.ensures (c.loop-i.invariant.value ds e);
      digits = front_more text c.loop-i.i c.loop-i-test.true is c.loop-i.invariant.digits;
    }
