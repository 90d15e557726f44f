use Rattle.std.proofs.Common.{refl}
use Rattle.std.specs.Fmt.{digits}
use Rattle.msl_io.proofs.laws.texts.Goals as goal

pub returns-clause-some : goal.returns-clause-some
unfolding digits
returns-clause-some c = refl
