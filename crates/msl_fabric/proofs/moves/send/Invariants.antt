use Rattle.std.proofs.Common.{◌≡◌, length}
use Rattle.msl_fabric.specs.Grids.{IsWhole, records}
use Rattle.msl_fabric.proofs.Rounds.{Sent}
use Rattle.msl_fabric.proofs.moves.send.Given as goal

abbrev pub invariant-loop-m : goal.invariant-loop-m
invariant-loop-m l = record {
  side : l.boxes.n ≡ l.fn.boxes.n;
  whole : IsWhole l.boxes;
  long : length l.left ≡ length l.fn.left;
  sent : Sent l.route l.k l.m (records l.fn.left) l.left l.boxes;
}
