-- A script by its parts.
use Rattle.std.specs.Prelude.{ℕ, List}
use Rattle.msl_fun.specs.declared.funs.Fun.{Fun}
use Rattle.msl_program.specs.declared.data.DataProg.{DataProg}
use Rattle.msl_program.specs.declared.script.FilterSpec.{FilterSpec}
use Rattle.msl_program.specs.declared.script.DivCon as divcon
use Rattle.msl_program.specs.declared.script.BnbSpec.{BnbSpec}
use Rattle.msl_program.specs.declared.script.ItemKind.{ItemKind}
use Rattle.msl_program.specs.declared.stage.Stage.{Stage}

pub record Script : Type 0 where
  pub version : ℕ
  pub funs : List Fun
  pub datas : List DataProg
  pub filters : List FilterSpec
  pub divcons : List divcon.DivCon
  pub bnbs : List BnbSpec
  -- the kinds of all definitions, as they stand in the text
  pub order : List ItemKind
  pub main : Stage
