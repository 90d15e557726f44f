-- What kind of value the table of a data program has at a line.
use Rattle.std.specs.Prelude.{◌<◌, List, [], ◌∷◌, length, ⊤}
use Rattle.msl_program.specs.declared.data.Arg.{Arg}
use Rattle.msl_program.specs.declared.data.Arg.TheVariants as arg
use Rattle.msl_program.specs.Data.{Value, list, matrix, number, Table, value_of}

abbrev pub IsArray : Value → Type 0
IsArray (list b a) = ⊤
IsArray (matrix m a) = ⊥
IsArray (number z) = ⊥

abbrev pub IsMatrix : Value → Type 0
IsMatrix (list b a) = ⊥
IsMatrix (matrix m a) = ⊤
IsMatrix (number z) = ⊥

abbrev pub IsContainer : Value → Type 0
IsContainer (list b a) = ⊤
IsContainer (matrix m a) = ⊤
IsContainer (number z) = ⊥

abbrev pub IsNumber : Value → Type 0
IsNumber (list b a) = ⊥
IsNumber (matrix m a) = ⊥
IsNumber (number z) = ⊤

-- the line that an argument names is a number
abbrev pub IsGiven : Table → Arg → Type 0
IsGiven t (arg.Number k) = (k < length t) × IsNumber (value_of t k)
IsGiven t (arg.Lit z) = ⊤

abbrev pub AreGiven : Table → List Arg → Type 0
AreGiven t [] = ⊤
AreGiven t (a ∷ more) = IsGiven t a × AreGiven t more
