-- Stages that a script can have: what they name by a place is there, and no filter is in a farm.
use Rattle.std.specs.Prelude.{◌≡◌, ◌<◌, Bool, true, false, length}
use Rattle.msl_program.specs.Script.{Script}
use Rattle.msl_program.specs.declared.stage.Stage.{Stage, Row_of-Stage, end_of-Stage, more_of-Stage}
use Rattle.msl_program.specs.declared.stage.Stage.TheVariants.{Atomic, Filter, Data, DivCon, Bnb, Pipe'}
use Rattle.msl_program.specs.Stages.{farm}

module _ (s : Script) where
  abbrev mutual
    pub Fits : Bool → Stage → Type 0
    Fits in_farm (Atomic f) = f < length s.funs
    Fits in_farm (Filter i) = (in_farm ≡ false) × (i < length s.filters)
    Fits in_farm (Data i on) = i < length s.datas
    Fits in_farm (DivCon i on) = i < length s.divcons
    Fits in_farm (Bnb i on) = i < length s.bnbs
    Fits in_farm (farm n st) = Fits true st
    Fits in_farm (Pipe' _ sts) = AllFit in_farm sts

    pub AllFit : {n : _} → Bool → Row_of-Stage n → Type 0
    AllFit in_farm end_of-Stage = Unit {0}
    AllFit in_farm (more_of-Stage st sts) = Fits in_farm st × AllFit in_farm sts

-- the stage at its top is one that it can have
abbrev pub IsWhole : Script → Type 0
IsWhole s = Fits s false s.main
