-- The function of a call.
use Rattle.std.specs.Prelude.{◌≡◌, ◌≤◌, List, Some}
use Rattle.msl_fun.specs.declared.funs.Fun.{Fun}
use Rattle.msl_fun_read.specs.declared.parse.callee.Callee.{Callee}
use Rattle.msl_fun.specs.Checks.{widths_of, rank_of}
use Rattle.msl_fun_read.specs.Grammar as grammar

abbrev pub callee_of : Callee → grammar.Callee
callee_of c = record { fun = c.fun; at = c.at }

-- it has one result, so many parameters, and not the greatest rank
pub record IsCallee (funs : List Fun) (c : Callee) : Type 0 where
  pub widths : widths_of funs c.fun ≡ Some (c.params, 1)
  pub rank : rank_of funs c.fun ≤ 7
