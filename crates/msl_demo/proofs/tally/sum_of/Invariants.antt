use Rattle.std.proofs.Common.{◌≡◌, ◌*◌, take, pos, ◌≤ℤ◌}
use Rattle.msl_demo_laws.specs.Demo.{total}
use Rattle.msl_demo.proofs.tally.sum_of.Given as goal

abbrev pub invariant-loop-number : goal.invariant-loop-number
invariant-loop-number l = record {
  sum : l.sum ≡ total (take l.number-index l.numbers);
  low : pos 0 ≤ℤ l.sum;
  high : l.sum ≤ℤ pos (999999 * l.number-index);
}
