use Rattle.msl_cover.proofs.Covers.{times-contains, contains-times}
use Rattle.msl_cover.proofs.laws.what_is_counted_is_there.Goals as goal

pub returns : goal.returns
returns c = λ p ps. (times-contains p ps, contains-times p ps)
