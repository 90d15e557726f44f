-- The function that a muscle is.
use Rattle.std.specs.Prelude.{◌≡◌, Some, slice_get}
use Rattle.msl_fun.specs.declared.funs.Fun.{Fun}
use Rattle.msl_fun.specs.declared.muscle.Muscle.{Muscle}

abbrev pub IsFun : Muscle → Fun → Type 0
IsFun m f = slice_get m.funs.now m.at ≡ Some f
