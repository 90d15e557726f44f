use Rattle.std.proofs.Common.{take}
use Rattle.msl_local.specs.Parts.{flat}
use Rattle.msl_array.specs.Moves.{IsGathered}
use Rattle.msl_array.proofs.blocks.gathered_part.Given as goal

abbrev pub invariant-loop-j : goal.invariant-loop-j
invariant-loop-j l = IsGathered l.size (take l.j-index l.numbers) (flat l.parts) l.part.items
