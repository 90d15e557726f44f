use Rattle.std.proofs.Common.{[]}
use Rattle.msl_stage.proofs.WorkingLaws.{one_record, one_fault, one_end}
use Rattle.msl_stage.proofs.laws.one_to_one_works.Goals as goal

pub returns : goal.returns
returns g c = let o = g.O.OneToOne.one in let total = g.met.O.OneToOne.total in record {
  good = one_record o total [];
  fault = one_fault o total [];
  ending = one_end o total [];
}
