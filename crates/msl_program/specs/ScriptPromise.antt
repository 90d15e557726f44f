-- What holds of each script that is read: it keeps all rules of the language. How many expressions and operands a text has open at once is a rule on texts, of which a script says nothing.
use Rattle.std.specs.Prelude.{◌≡◌, ◌<◌, ◌≤◌, ℕ, suc, ◌+◌, max, false, List, [], ◌∷◌, length}
use Rattle.msl_base.specs.declared.limits.TheConstants.{MOST_DEFINITIONS, MOST_FILTERS, MOST_MEMBERS, MOST_NESTED, MOST_PRIMITIVES}
use Rattle.msl_fun.specs.declared.funs.Fun.{Fun}
use Rattle.msl_fun.specs.Checks.{MayFollow}
use Rattle.msl_base.specs.Names.{is_among}
use Rattle.msl_program.specs.declared.data.DataProg.{DataProg}
use Rattle.msl_program.specs.declared.script.FilterSpec.{FilterSpec}
use Rattle.msl_program.specs.declared.script.DivCon as divcon
use Rattle.msl_program.specs.declared.script.BnbSpec.{BnbSpec}
use Rattle.msl_program.specs.Script.{Script}
use Rattle.msl_program.specs.declared.stage.Stage.{Stage, Row_of-Stage, end_of-Stage, more_of-Stage}
use Rattle.msl_program.specs.declared.stage.Stage.TheVariants.{Atomic, Filter, Data, DivCon, Bnb, Pipe'}
use Rattle.msl_program.specs.Known.{Known, nothing_known, with_fun, with_data, with_filter, with_divcon, with_bnb, script_of}
use Rattle.msl_program.specs.Promises.{IsNewName, FilterFits, DivConFits, SearchFits}
use Rattle.msl_program.specs.ProgramPromise.{IsBetween, ProgramFits}
use Rattle.msl_program.specs.Stages.{farm, primitives_of}
use Rattle.msl_program.specs.Fitting.{IsWhole}

-- ---- definitions

pub data Item : Type 0 where
  fun_item : Fun → Item
  data_item : DataProg → Item
  filter_item : FilterSpec → Item
  divcon_item : divcon.DivCon → Item
  bnb_item : BnbSpec → Item

abbrev pub with_item : Known → Item → Known
with_item m (fun_item f) = with_fun m f
with_item m (data_item d) = with_data m d
with_item m (filter_item f) = with_filter m f
with_item m (divcon_item d) = with_divcon m d
with_item m (bnb_item b) = with_bnb m b

abbrev pub with_items : Known → List Item → Known
with_items m [] = m
with_items m (i ∷ is) = with_items (with_item m i) is

-- what is known behind these
abbrev pub built : List Item → Known
built items = with_items nothing_known items

-- a definition may stand behind these
abbrev pub ItemFits : Known → Item → Type 0
ItemFits m (fun_item f) = MayFollow m.funs f × (is_among m.others f.name ≡ false)
ItemFits m (data_item d) = IsNewName m d.name × ProgramFits m.funs d × (length m.datas < MOST_DEFINITIONS)
ItemFits m (filter_item f) = IsNewName m f.name × FilterFits m.funs f × (length m.filters < MOST_DEFINITIONS)
ItemFits m (divcon_item d) = IsNewName m d.name × DivConFits m.funs d × (length m.divcons < MOST_DEFINITIONS)
ItemFits m (bnb_item b) = IsNewName m b.name × SearchFits m.funs b × (length m.bnbs < MOST_DEFINITIONS)

-- each may stand behind those before it
abbrev pub EachFits : Known → List Item → Type 0
EachFits m [] = Unit {0}
EachFits m (i ∷ is) = ItemFits m i × EachFits (with_item m i) is

-- ---- stages

abbrev mutual
  pub filters_of : Stage → ℕ
  filters_of (farm n st) = filters_of st
  filters_of (Pipe' _ sts) = filters_in sts
  filters_of (Atomic f) = 0
  filters_of (Filter i) = 1
  filters_of (Data i on) = 0
  filters_of (DivCon i on) = 0
  filters_of (Bnb i on) = 0

  pub filters_in : {n : _} → Row_of-Stage n → ℕ
  filters_in end_of-Stage = 0
  filters_in (more_of-Stage st sts) = filters_of st + filters_in sts

abbrev mutual
  -- how many farms and pipes are open at once
  pub height : Stage → ℕ
  height (farm n st) = suc (height st)
  height (Pipe' _ sts) = suc (greatest_height sts)
  height (Atomic f) = 0
  height (Filter i) = 0
  height (Data i on) = 0
  height (DivCon i on) = 0
  height (Bnb i on) = 0

  pub greatest_height : {n : _} → Row_of-Stage n → ℕ
  greatest_height end_of-Stage = 0
  greatest_height (more_of-Stage st sts) = max (height st) (greatest_height sts)

abbrev mutual
  -- 1 to 64 members wherever a number of them is said, and a stage in each pipe
  pub IsSized : Stage → Type 0
  IsSized (farm n st) = IsBetween 1 MOST_MEMBERS n × IsSized st
  IsSized (Pipe' stages sts) = (1 ≤ length stages) × AreSized sts
  IsSized (Atomic f) = Unit {0}
  IsSized (Filter i) = Unit {0}
  IsSized (Data i on) = IsBetween 1 MOST_MEMBERS on
  IsSized (DivCon i on) = IsBetween 1 MOST_MEMBERS on
  IsSized (Bnb i on) = IsBetween 1 MOST_MEMBERS on

  pub AreSized : {n : _} → Row_of-Stage n → Type 0
  AreSized end_of-Stage = Unit {0}
  AreSized (more_of-Stage st sts) = IsSized st × AreSized sts

pub record IsMain (st : Stage) : Type 0 where
  pub sized : IsSized st
  pub few_primitives : primitives_of st ≤ MOST_PRIMITIVES
  pub few_filters : filters_of st ≤ MOST_FILTERS
  pub low : height st ≤ MOST_NESTED

-- ---- scripts

pub record IsScript (s : Script) : Type 0 where
  pub items : List Item
  pub each : EachFits nothing_known items
  pub is : s ≡ script_of (built items) s.main
  pub whole : IsWhole s
  pub main : IsMain s.main
