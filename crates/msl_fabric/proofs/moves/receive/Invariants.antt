use Rattle.std.proofs.Common.{◌≡◌, length}
use Rattle.msl_fabric.specs.Grids.{IsWhole, records}
use Rattle.msl_fabric.proofs.Rounds.{Received}
use Rattle.msl_fabric.proofs.moves.receive.Given as goal

abbrev pub invariant-loop-m : goal.invariant-loop-m
invariant-loop-m l = record {
  side : l.boxes.n ≡ l.fn.boxes.n;
  whole : IsWhole l.boxes;
  long : length l.moved ≡ length l.fn.moved;
  received : Received l.route l.k l.m (records l.fn.moved) l.fn.boxes l.moved l.boxes;
}
