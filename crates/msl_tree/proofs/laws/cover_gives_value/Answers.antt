use Rattle.msl_tree.proofs.Values.{gives_value}
use Rattle.msl_tree.proofs.laws.cover_gives_value.Goals as goal

pub returns : goal.returns
returns c = gives_value
