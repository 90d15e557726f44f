use Rattle.std.proofs.Common.{arith}
use Rattle.msl_read.proofs.Words.{value_with_le}
use Rattle.msl_read.proofs.cursor.number_of.Goals as goal

pub overflow_mul-value : goal.overflow_mul-value
overflow_mul-value c = omega (arith, value_with_le c.args.digits.now c.loop-d.d-index c.loop-d-test.true)

pub overflow_add-value : goal.overflow_add-value
overflow_add-value c = omega (arith, value_with_le c.args.digits.now c.loop-d.d-index c.loop-d-test.true)
