use Rattle.msl_stage.proofs.DealingLaws.{farm_ended, farm_given_up}
use Rattle.msl_stage.proofs.laws.farm_has_ended.Goals as goal

pub returns : goal.returns
returns g c = let o = g.O.OneToOne.one in let total = g.met.O.OneToOne.total in record {
  ended = λ funs. farm_ended o total;
  given_up = λ funs. farm_given_up o total;
}
