use Rattle.std.proofs.Common.{◌≡◌, ◌<◌, ◌≤◌, ℕ, length}
use Rattle.msl_fabric.specs.Grids.{records}
use Rattle.msl_fabric.specs.Moves.{block}
use Rattle.msl_fabric.specs.Routes.{goes, many, round}
use Rattle.msl_fabric.proofs.moves.in_rounds.Given as goal

abbrev pub invariant-loop-k : goal.invariant-loop-k
invariant-loop-k g l = record {
  side : l.boxes.n ≡ l.route.members;
  left : length l.blocks.items ≡ many l.route;
  long : length l.moved.items ≡ many l.route;
  rest : (i : ℕ) → i < many l.route → l.k ≤ round l.route i → block (records l.blocks.items) i ≡ block (records l.fn.blocks.items) i;
  done : (i : ℕ) → i < many l.route → round l.route i < l.k → block (records l.moved.items) (goes l.route i) ≡ block (records l.fn.blocks.items) i;
  stage : l.at.stage ≡ l.fn.at.stage;
  group : l.at.group ≡ l.fn.at.group;
}
