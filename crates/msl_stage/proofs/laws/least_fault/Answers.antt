use Rattle.std.proofs.lemmas.List.Elements.{All-nil}
use Rattle.msl_stage.specs.Dealing.{IsGood}
use Rattle.msl_stage.proofs.DealingLaws.{good_more, fault_first, fault_lower, fault_higher}
use Rattle.msl_stage.proofs.laws.least_fault.Goals as goal

pub returns : goal.returns
returns c = record {
  none = All-nil IsGood;
  good = good_more;
  first = fault_first;
  lower = fault_lower;
  higher = fault_higher;
}
