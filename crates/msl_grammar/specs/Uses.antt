-- A function with its first arguments while it is read, and what the lines that it names are.
use Rattle.std.specs.Prelude.{◌≡◌, ◌≤◌, ℕ, ◌+◌, Bool, ◌&&◌, ◌==◌, List, [], ◌∷◌, ◌++◌, length, slice_index_or}
use Rattle.msl_base.specs.declared.limits.TheConstants.{MOST_DATA_LINES}
use Rattle.msl_base.specs.Names.{Text}
use Rattle.msl_fun.specs.declared.funs.Fun.{Fun}
use Rattle.msl_fun.specs.Meaning.{params_of, results_of}
use Rattle.msl_program.specs.declared.data.Arg.{Arg}
use Rattle.msl_program.specs.declared.data.UseSpec.{UseSpec}
use Rattle.msl_program.specs.declared.shape.Shape.{Shape}
use Rattle.msl_program.specs.declared.shape.Shape.TheVariants.{Number}
use Rattle.msl_program.specs.Programs.{Program, line_names}
use Rattle.msl_grammar.specs.declared.used.Used.{Used}
use Rattle.msl_grammar.specs.Known.{place}

-- ---- lines

-- what the line of a name is
abbrev pub shape_of : Program → Text → Shape
shape_of p n = slice_index_or p.shapes (place (line_names p) n) Number

-- it is known of each line what it is, and a place among them is a small number
pub record ArePaired (p : Program) : Type 0 where
  pub paired : length p.shapes ≡ length p.lines
  pub few : length p.lines ≤ MOST_DATA_LINES

-- ---- functions that a step uses

abbrev pub used : ℕ → ℕ → Used
used f at = record { fun = f; at = at; args = [] }

abbrev pub with_arg : Used → Arg → Used
with_arg u a = record u { args = u.args ++ a ∷ [] }

abbrev pub use_spec : Used → UseSpec
use_spec u = record { fun = u.fun; args = u.args }

-- the function has as many more parameters as the step gives, and one result
abbrev pub use_fits : List Fun → Used → ℕ → Bool
use_fits funs u more = (params_of funs u.fun == length u.args + more) && (results_of funs u.fun == 1)
