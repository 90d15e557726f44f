use Rattle.std.proofs.Common.{◌≡◌, ◌+◌, ◌*◌}
use Rattle.msl_local.specs.Parts.{start}
use Rattle.msl_array.proofs.blocks.block_at.Given as goal

-- how far behind the start of the part the block begins
abbrev pub invariant-loop-part : goal.invariant-loop-part
invariant-loop-part l = l.from + start l.parts l.part-index ≡ l.j * l.size
