use Rattle.std.proofs.Common.{subst, IsPermutation}
use Rattle.std.specs.List.{enumerate_from}
use Rattle.msl_stage.proofs.DealingLaws.{same_pieces}
use Rattle.msl_stage.proofs.laws.parts_stand_for_others.Goals as goal

pub returns : goal.returns
returns g c = record {
  dealt = λ dealt also parts others X same. subst (IsPermutation (enumerate_from 0 X)) (same_pieces dealt also parts others same);
  collected = λ results also parts others came same. subst (λ l. IsPermutation l came) (same_pieces results also parts others same);
}
