use Rattle.msl_cover.proofs.Covers.{root_comes_up, child_comes_up, comes_up_cases}
use Rattle.msl_cover.proofs.laws.what_comes_up.Goals as goal

pub returns : goal.returns
returns c = record { root = root_comes_up; child = child_comes_up; nothing_else = comes_up_cases }
