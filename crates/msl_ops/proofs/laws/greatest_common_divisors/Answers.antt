use Rattle.msl_ops.specs.Gcd.{gcd_is}
use Rattle.msl_ops.proofs.laws.greatest_common_divisors.Goals as goal

pub returns-clause-divides : goal.returns-clause-divides
returns-clause-divides c = gcd_is
