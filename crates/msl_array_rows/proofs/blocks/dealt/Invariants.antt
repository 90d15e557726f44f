use Rattle.std.proofs.Common.{◌≡◌, ◌≤◌, length, vec_capacity}
use Rattle.msl_array_rows.proofs.Dealt.{AreDealt}
use Rattle.msl_array_rows.proofs.blocks.dealt.Given as goal

abbrev pub invariant-loop-i : goal.invariant-loop-i
invariant-loop-i l = record {
  long : length l.to.items ≡ l.i;
  within : l.i ≤ l.n;
  room : l.n ≤ vec_capacity l.to;
  each : AreDealt l.n l.to.items;
}
