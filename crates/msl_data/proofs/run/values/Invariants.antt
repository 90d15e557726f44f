use Rattle.std.proofs.Common.{◌≡◌, ◌≤◌, [], length, take, Ok}
use Rattle.std.specs.Vec.{vec_capacity}
use Rattle.msl_program.specs.Data.{extended}
use Rattle.msl_data.specs.Tables.{values_of}
use Rattle.msl_data.proofs.run.values.Given as goal

abbrev pub invariant-loop-line : goal.invariant-loop-line
invariant-loop-line g l = record {
  so_far : extended l.funs l.fn.at.stage l.input [] (take l.line-index l.lines) ≡ Ok (values_of l.table);
  long : length (values_of l.table) ≡ l.line-index;
  room : length l.lines ≤ vec_capacity l.table.values;
  stage : l.at.stage ≡ l.fn.at.stage;
  group : l.at.group ≡ l.fn.at.group;
}
