-- What holds of the definitions while a script is read, and where one stands.
use Rattle.std.specs.Prelude.{◌≡◌, ◌≤◌, ℕ, true, List, length, unwrap_or}
use Rattle.msl_base.specs.declared.limits.TheConstants.{MOST_DEFINITIONS}
use Rattle.msl_base.specs.Names.{Text, is_among, place_among}
use Rattle.msl_program.specs.Known.{Known, data_names, filter_names, divcon_names, bnb_names}

abbrev pub place : List Text → Text → ℕ
place names n = unwrap_or (place_among names n) 0

-- the names of these are among those of the definitions that are no functions
abbrev pub AreAmong : List Text → List Text → Type 0
AreAmong names others = (n : Text) → is_among names n ≡ true → is_among others n ≡ true

pub record IsKnown (m : Known) : Type 0 where
  pub few_datas : length m.datas ≤ MOST_DEFINITIONS
  pub few_filters : length m.filters ≤ MOST_DEFINITIONS
  pub few_divcons : length m.divcons ≤ MOST_DEFINITIONS
  pub few_bnbs : length m.bnbs ≤ MOST_DEFINITIONS
  pub datas : AreAmong (data_names m) m.others
  pub filters : AreAmong (filter_names m) m.others
  pub divcons : AreAmong (divcon_names m) m.others
  pub bnbs : AreAmong (bnb_names m) m.others
