use Rattle.msl_ops.specs.Keeping.{lawful_of}
use Rattle.msl_ops.proofs.laws.rows_are_lawful.Goals as goal

pub returns : goal.returns
returns c = lawful_of
