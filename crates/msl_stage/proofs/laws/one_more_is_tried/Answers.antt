use Rattle.std.proofs.Common.{[], refl}
use Rattle.msl_stage.proofs.DealingLaws.{one_more_tried, more_left}
use Rattle.msl_stage.proofs.laws.one_more_is_tried.Goals as goal

pub returns : goal.returns
returns g c = record {
  none = λ w. ([], refl, refl, tt);
  tried = λ w. one_more_tried (g.O.OneToOne.one w);
  left = λ w. more_left (g.O.OneToOne.one w);
}
