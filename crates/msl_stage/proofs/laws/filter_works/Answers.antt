use Rattle.msl_stage.proofs.WorkingLaws.{filter_record, filter_fault, filter_end, filter_end_fault}
use Rattle.msl_stage.proofs.laws.filter_works.Goals as goal

pub returns : goal.returns
returns g c = let o = g.O.OneToOne.one in let total = g.met.O.OneToOne.total in record {
  good = λ funs. filter_record o total funs;
  fault = λ funs. filter_fault o total funs;
  last = λ funs. filter_end o total funs;
  last_fault = λ funs. filter_end_fault o total funs;
}
