use Rattle.std.proofs.Common.{◌≡◌, ◌≤◌, ℕ, true, [], length}
use Rattle.std.specs.List.{list_all}
use Rattle.msl_base.specs.Names.{Text, are_distinct}
use Rattle.msl_lex.specs.Names.{is_name}
use Rattle.msl_fun_read.specs.Grammar.{param, more_params, reading}
use Rattle.msl_fun_read.specs.Declaring.{head}
use Rattle.msl_fun_read.proofs.parse.declared.Declared.params.Given as goal

abbrev pub invariant-loop-d : goal.invariant-loop-d
invariant-loop-d l = record {
  are_names : list_all is_name l.d.scope ≡ true;
  distinct : are_distinct l.d.scope ≡ true;
  some : 1 ≤ length l.d.scope;
  few : length l.d.scope ≤ 16;
  names : l.d.names ≡ l.fn.d.names;
  goes : (n : Text) (at : ℕ) → reading l.self.funs.now l.self.others.now l.fn.d.cursor (param (head n at [])) ≡ reading l.self.funs.now l.self.others.now l.d.cursor (more_params (head n at l.d.scope));
}

abbrev pub decreases-loop-d : goal.decreases-loop-d
decreases-loop-d l = length l.d.cursor
