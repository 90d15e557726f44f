use Rattle.std.proofs.Common.{◌≤◌, length, vec_capacity}
use Rattle.msl_array.proofs.Gathered.{AreGathered}
use Rattle.msl_array.proofs.blocks.gathered.Given as goal

abbrev pub invariant-loop-m : goal.invariant-loop-m
invariant-loop-m l = record {
  first : AreGathered l.size l.blocks l.parts l.numbers l.m l.all.items;
  room : length l.parts ≤ vec_capacity l.all;
}
