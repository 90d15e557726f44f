use Rattle.std.proofs.Common.{refl}
use Rattle.std.specs.Fmt.{digits}
use Rattle.msl_demo_laws.proofs.laws.lines.Goals as goal

pub returns-clause-none : goal.returns-clause-none
unfolding digits
returns-clause-none c = refl

pub returns-clause-four : goal.returns-clause-four
unfolding digits
returns-clause-four c = refl

pub returns-clause-ten : goal.returns-clause-ten
unfolding digits
returns-clause-ten c = refl
