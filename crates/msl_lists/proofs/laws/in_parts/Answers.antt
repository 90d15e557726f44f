use Rattle.msl_lists.proofs.WholeParts.{each_values, collect_parts, each_parts, each_blocks, each_tiles}
use Rattle.msl_lists.proofs.laws.in_parts.Goals as goal

pub returns : goal.returns
returns w = λ c. record { values = each_values; lists = collect_parts; two = each_parts; blocks = each_blocks; tiles = each_tiles }
