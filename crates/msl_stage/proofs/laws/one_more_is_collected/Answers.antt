use Rattle.std.proofs.Common.{[], sym, subst, IsPermutation}
use Rattle.std.proofs.lemmas.List.Sorted.{IsPermutation-refl}
use Rattle.msl_stage.proofs.DealingLaws.{none_yet, one_more_collected, goods_of-append}
use Rattle.msl_stage.proofs.laws.one_more_is_collected.Goals as goal

pub returns : goal.returns
returns g c = record {
  none = λ results parts none. subst (λ l. IsPermutation l []) (sym (none_yet results parts none)) (IsPermutation-refl []);
  more = one_more_collected;
  goods = goods_of-append;
}
