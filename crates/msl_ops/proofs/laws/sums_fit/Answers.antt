use Rattle.msl_ops.specs.Keeping.{sum_fits}
use Rattle.msl_ops.proofs.laws.sums_fit.Goals as goal

pub returns : goal.returns
returns c = sum_fits
