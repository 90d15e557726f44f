use Rattle.std.proofs.Common.{[], sym, subst, IsPermutation}
use Rattle.std.proofs.lemmas.List.Sorted.{IsPermutation-refl}
use Rattle.msl_stage.proofs.DealingLaws.{none_yet, one_more_dealt}
use Rattle.msl_stage.proofs.laws.one_more_is_dealt.Goals as goal

pub returns : goal.returns
returns g c = record {
  none = λ dealt parts none. subst (IsPermutation []) (sym (none_yet dealt parts none)) (IsPermutation-refl []);
  more = one_more_dealt;
}
