use Rattle.msl_base.proofs.Tiles.{tiles, block_is}
use Rattle.msl_base.proofs.laws.tiles.Goals as goal

pub returns : goal.returns
returns c = record { side_by_side = tiles; block = block_is }
