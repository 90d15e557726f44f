-- The functions and matrices of the worked examples of whole operations.
use Rattle.std.specs.Prelude.{ℕ, ℤ, pos, List, [], ◌∷◌, Result, Ok, Err}
use Rattle.msl_ops.specs.declared.op.Op.{Op}
use Rattle.msl_ops.specs.declared.op.OpKind.TheVariants.{Sum, Gcd}
use Rattle.msl_fun.specs.declared.funs.Fun.{Fun}
use Rattle.msl_read.specs.Reading.{Refusal}
use Rattle.msl_muscle_laws.specs.Texts.{fun_of_text}
use Rattle.msl_lists.specs.Whole.{Function, Extent, use_of}

abbrev pub alone : Result Fun Refusal → List ℤ → Function
alone (Ok f) given = use_of (f ∷ []) 0 given
alone (Err e) given = λ args. Ok (pos 0)

-- the function of a text, whose first arguments are given
abbrev pub function : List ℕ → List ℤ → Function
function text given = alone (fun_of_text [] text) given

-- four rows of four, in a grid of two by two
abbrev pub four_by_four : Extent
four_by_four = record { rows = 4; cols = 4; grid_rows = 2; grid_cols = 2 }

-- three rows of two, in a grid of two by two: block row 0 is rows 0 and 1
abbrev pub three_by_two : Extent
three_by_two = record { rows = 3; cols = 2; grid_rows = 2; grid_cols = 2 }

abbrev pub one_by_three : Extent
one_by_three = record { rows = 1; cols = 3; grid_rows = 1; grid_cols = 3 }

abbrev pub sum : Op
sum = record { kind = Sum; modulus = pos 1; least = record { le = tt }; most = record { le = tt } }

abbrev pub gcd : Op
gcd = record { kind = Gcd; modulus = pos 1; least = record { le = tt }; most = record { le = tt } }
