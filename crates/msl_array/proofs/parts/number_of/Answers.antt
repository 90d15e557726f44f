use Rattle.std.proofs.Common.{◌∙◌, arith}
use Rattle.msl_local.proofs.Lists.{start_last}
use Rattle.msl_array.proofs.parts.number_of.Goals as goal

pub returns : goal.returns
returns c = c.start.ensures.start ∙ start_last c.args.parts.now _ (omega arith)
