-- The definitions of a script so far, by their kinds.
use Rattle.std.specs.Prelude.{Bool, ◌||◌, List, [], ◌∷◌, ◌++◌, map}
use Rattle.msl_base.specs.Names.{Text, is_among}
use Rattle.msl_fun.specs.declared.funs.Fun.{Fun}
use Rattle.msl_fun.specs.Checks.{names_of}
use Rattle.msl_program.specs.declared.data.DataProg.{DataProg}
use Rattle.msl_program.specs.declared.script.FilterSpec.{FilterSpec}
use Rattle.msl_program.specs.declared.script.DivCon as divcon
use Rattle.msl_program.specs.declared.script.BnbSpec.{BnbSpec}
use Rattle.msl_program.specs.declared.script.ItemKind.{ItemKind}
use Rattle.msl_program.specs.declared.script.ItemKind.TheVariants as item
use Rattle.msl_program.specs.declared.script.Definitions.{Definitions}
use Rattle.msl_program.specs.declared.stage.Stage.{Stage}
use Rattle.msl_program.specs.Script.{Script}

pub record Known : Type 0 where
  pub funs : List Fun
  pub datas : List DataProg
  pub filters : List FilterSpec
  pub divcons : List divcon.DivCon
  pub bnbs : List BnbSpec
  -- the kinds of all, as they stand in the text
  pub order : List ItemKind
  -- the names of those that are no functions
  pub others : List Text

abbrev pub nothing_known : Known
nothing_known = record { funs = []; datas = []; filters = []; divcons = []; bnbs = []; order = []; others = [] }

abbrev pub data_names : Known → List Text
data_names m = map (λ d. d.name) m.datas

abbrev pub filter_names : Known → List Text
filter_names m = map (λ d. d.name) m.filters

abbrev pub divcon_names : Known → List Text
divcon_names m = map (λ d. d.name) m.divcons

abbrev pub bnb_names : Known → List Text
bnb_names m = map (λ d. d.name) m.bnbs

abbrev pub is_declared : Known → Text → Bool
is_declared m n = is_among (names_of m.funs) n || is_among m.others n

abbrev pub with_fun : Known → Fun → Known
with_fun m f = record m { funs = m.funs ++ f ∷ []; order = m.order ++ item.Fun ∷ [] }

abbrev pub with_data : Known → DataProg → Known
with_data m d = record m { datas = m.datas ++ d ∷ []; order = m.order ++ item.Data ∷ []; others = m.others ++ d.name ∷ [] }

abbrev pub with_filter : Known → FilterSpec → Known
with_filter m f = record m { filters = m.filters ++ f ∷ []; order = m.order ++ item.Filter ∷ []; others = m.others ++ f.name ∷ [] }

abbrev pub with_divcon : Known → divcon.DivCon → Known
with_divcon m d = record m { divcons = m.divcons ++ d ∷ []; order = m.order ++ item.DivCon ∷ []; others = m.others ++ d.name ∷ [] }

abbrev pub with_bnb : Known → BnbSpec → Known
with_bnb m b = record m { bnbs = m.bnbs ++ b ∷ []; order = m.order ++ item.Bnb ∷ []; others = m.others ++ b.name ∷ [] }

abbrev pub script_of : Known → Stage → Script
script_of m main = record { version = 1; funs = m.funs; datas = m.datas; filters = m.filters; divcons = m.divcons; bnbs = m.bnbs; order = m.order; main = main }

-- the same of definitions without their names
abbrev pub made_of : Definitions → Stage → Script
made_of d main = record { version = 1; funs = d.funs; datas = d.datas; filters = d.filters; divcons = d.divcons; bnbs = d.bnbs; order = d.order; main = main }
