use Rattle.msl_base.proofs.StreamLaws.{function_prefixes}
use Rattle.msl_base.proofs.laws.pointwise_has_prefixes.Goals as goal

pub returns : goal.returns
returns c = λ f. function_prefixes f
