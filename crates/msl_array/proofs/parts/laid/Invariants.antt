use Rattle.std.proofs.Common.{◌≤◌, vec_capacity}
use Rattle.msl_array.proofs.Shares.{AreFirst}
use Rattle.msl_array.proofs.parts.laid.Given as goal

abbrev pub invariant-loop-m : goal.invariant-loop-m
invariant-loop-m l = record {
  first : AreFirst l.all l.blocks l.members l.m l.parts.items;
  upto : l.m ≤ l.members;
  room : l.members ≤ vec_capacity l.parts;
}
