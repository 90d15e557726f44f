use Rattle.std.proofs.Common.{None}
use Rattle.msl_stage.proofs.DealingLaws.{farm_together}
use Rattle.msl_stage.proofs.laws.farm_together.Goals as goal

pub returns : goal.returns
returns g c = let o = g.O.OneToOne.one in record {
  together = farm_together o;
  good = λ X parts came e. farm_together o X parts came None e;
}
