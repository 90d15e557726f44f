use Rattle.msl_cover.proofs.Covers.{root_is_kept, child_is_kept}
use Rattle.msl_cover.proofs.laws.no_child_is_lost.Goals as goal

pub returns : goal.returns
returns c = record { root = root_is_kept; child = child_is_kept }
