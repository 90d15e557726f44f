use Rattle.msl_base.proofs.StreamLaws.{in_order}
use Rattle.msl_base.proofs.laws.in_order_is_an_order.Goals as goal

pub returns : goal.returns
returns c = λ f. in_order f
