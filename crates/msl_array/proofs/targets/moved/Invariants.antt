use Rattle.std.proofs.Common.{pos, length, replicate}
use Rattle.msl_local.specs.Parts.{flat, start}
use Rattle.msl_array.specs.Moves.{ArePut}
use Rattle.msl_array.proofs.targets.moved.Given as goal

abbrev pub invariant-loop-m : goal.invariant-loop-m
invariant-loop-m l = ArePut (replicate (length (flat l.xs)) (pos 0)) (flat l.targets) (flat l.xs) (start l.xs l.m) l.all.items
