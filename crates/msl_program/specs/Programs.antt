-- The lines of a data program, with what each of them is.
use Rattle.std.specs.Prelude.{ℕ, Bool, true, false, ◌&&◌, ◌||◌, ◌==◌, List, [], ◌∷◌, ◌++◌, map}
use Rattle.msl_base.specs.Names.{Text}
use Rattle.msl_program.specs.declared.data.DataStep.{DataStep}
use Rattle.msl_program.specs.declared.data.DataLine.{DataLine}
use Rattle.msl_program.specs.declared.shape.Shape.{Shape}
use Rattle.msl_program.specs.declared.shape.Shape.TheVariants.{Array, Matrix, Number}
use Rattle.msl_program.specs.declared.shape.Need.{Need}
use Rattle.msl_program.specs.declared.shape.Need.TheVariants as need

pub record Program : Type 0 where
  pub lines : List DataLine
  -- what each line is
  pub shapes : List Shape

abbrev pub no_lines : Program
no_lines = record { lines = []; shapes = [] }

abbrev pub with_line : Program → Text → DataStep → Shape → Program
with_line p n s shape = record { lines = p.lines ++ record { name = n; step = s } ∷ []; shapes = p.shapes ++ shape ∷ [] }

abbrev pub line_names : Program → List Text
line_names p = map (λ l. l.name) p.lines

-- ---- shapes

abbrev pub is_array : Shape → Bool
is_array (Array b) = true
is_array _ = false

abbrev pub is_matrix : Shape → Bool
is_matrix (Matrix r c p q) = true
is_matrix _ = false

abbrev pub is_number : Shape → Bool
is_number Number = true
is_number _ = false

-- two arrays of equal blocks, or two matrices of equal numbers
abbrev pub same_shape : Shape → Shape → Bool
same_shape (Array b) (Array c) = b == c
same_shape (Matrix r c p q) (Matrix r' c' p' q') = (r == r') && (c == c') && (p == p') && (q == q')
same_shape _ _ = false

-- such a line is one that is needed
abbrev pub suits : Need → Shape → Bool
suits need.Any s = true
suits need.Array s = is_array s
suits need.Matrix s = is_matrix s
suits need.Container s = is_array s || is_matrix s
suits need.Number s = is_number s
suits (need.Like t) s = same_shape t s

abbrev pub blocks_of : Shape → ℕ
blocks_of (Array b) = b
blocks_of _ = 0

-- with rows and columns exchanged
abbrev pub turned : Shape → Shape
turned (Matrix r c p q) = Matrix c r q p
turned s = s

-- how many arguments a step gives, by what it works on
abbrev pub given : ℕ → ℕ → Shape → ℕ
given for_array for_matrix (Matrix r c p q) = for_matrix
given for_array for_matrix _ = for_array
