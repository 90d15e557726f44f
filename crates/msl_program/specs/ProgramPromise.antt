-- What holds of a data program, over the functions.
use Rattle.std.specs.Prelude.{◌≡◌, ◌<◌, ◌≤◌, IsTrue, ℕ, ◌+◌, ◌*◌, pos, false, List, [], ◌∷◌, length, slice_index_or}
use Rattle.msl_base.specs.declared.limits.TheConstants.{MOST_BLOCKS, MOST_DATA_LINES, MOST_NUMBERS}
use Rattle.msl_ops.specs.declared.op.Op.{Op}
use Rattle.msl_lex.specs.Names.{is_name}
use Rattle.msl_base.specs.Names.{is_among}
use Rattle.msl_program.specs.declared.data.Arg.{Arg}
use Rattle.msl_program.specs.declared.data.Arg.TheVariants as arg
use Rattle.msl_program.specs.declared.data.UseSpec.{UseSpec}
use Rattle.msl_program.specs.declared.data.DataStep.{DataStep}
use Rattle.msl_program.specs.declared.data.DataStep.TheVariants.{Array, ArrayAt, Matrix, Map, MapIndex, Zip, ZipIndex, Fold, Scan, Foldl, PermutePartition, Permute, BroadcastPartition, RotateRows, RotateCols, Transpose}
use Rattle.msl_program.specs.declared.data.DataLine.{DataLine}
use Rattle.msl_program.specs.declared.data.DataProg.{DataProg}
use Rattle.msl_fun.specs.declared.funs.Fun.{Fun}
use Rattle.msl_program.specs.declared.width.Width.TheVariants.{Exactly}
use Rattle.msl_program.specs.declared.shape.Shape.{Shape}
use Rattle.msl_program.specs.declared.shape.Shape.TheVariants as shape
use Rattle.msl_program.specs.declared.shape.Need.{Need}
use Rattle.msl_program.specs.declared.shape.Need.TheVariants as need
use Rattle.msl_program.specs.Widths.{IsFunction}
use Rattle.msl_ops.specs.Operators.{has_modulus}
use Rattle.msl_program.specs.Programs.{Program, no_lines, with_line, line_names, suits, turned, blocks_of, given}
use Rattle.msl_lex.specs.Spelling.{IsInteger}

-- ---- shapes

-- what the line at a place is
abbrev pub shape_at : Program → ℕ → Shape
shape_at p k = slice_index_or p.shapes k shape.Number

-- what a line with this step is, behind these lines
abbrev pub shape_after : Program → DataStep → Shape
shape_after p (Array b) = shape.Array b
shape_after p (ArrayAt b at len) = shape.Array b
shape_after p (Matrix r c gr gc at) = shape.Matrix r c gr gc
shape_after p (Map u k) = shape_at p k
shape_after p (MapIndex u k) = shape_at p k
shape_after p (Zip u k l) = shape_at p k
shape_after p (ZipIndex u k l) = shape_at p k
shape_after p (Fold op k) = shape.Number
shape_after p (Scan op k) = shape_at p k
shape_after p (Foldl u a k) = shape.Number
shape_after p (PermutePartition u k) = shape_at p k
shape_after p (Permute u k) = shape_at p k
shape_after p (BroadcastPartition j k) = shape_at p k
shape_after p (RotateRows u k) = shape_at p k
shape_after p (RotateCols u k) = shape_at p k
shape_after p (Transpose k) = turned (shape_at p k)

abbrev pub one_line : Program → DataLine → Program
one_line p l = with_line p l.name l.step (shape_after p l.step)

-- ---- what a step names

-- a line that is such
pub record IsLine (p : Program) (needed : Need) (k : ℕ) : Type 0 where
  pub within : k < length p.lines
  pub suits : IsTrue (suits needed (shape_at p k))

abbrev pub IsArgument : Program → Arg → Type 0
IsArgument p (arg.Number k) = IsLine p need.Number k
IsArgument p (arg.Lit z) = IsInteger z

abbrev pub AreArguments : Program → List Arg → Type 0
AreArguments p [] = Unit {0}
AreArguments p (a ∷ more) = IsArgument p a × AreArguments p more

-- a function of its given arguments and so many more, with one result
pub record IsUse (funs : List Fun) (p : Program) (more : ℕ) (u : UseSpec) : Type 0 where
  pub function : IsFunction funs (Exactly (length u.args + more)) (Exactly 1) u.fun
  pub args : AreArguments p u.args

-- one that a script can name: it has the modulus 1 if it needs none
abbrev pub IsOperator : Op → Type 0
IsOperator op = has_modulus op.kind ≡ false → op.modulus ≡ pos 1

-- ---- steps

abbrev pub IsBetween : ℕ → ℕ → ℕ → Type 0
IsBetween low high v = (low ≤ v) × (v ≤ high)

-- a place in a record, or a length
abbrev pub IsPlace : ℕ → Type 0
IsPlace v = v ≤ MOST_NUMBERS

-- two numbers whose product has a limit
abbrev pub IsExtent : ℕ → ℕ → ℕ → Type 0
IsExtent most a b = IsBetween 1 MOST_NUMBERS a × IsBetween 1 MOST_NUMBERS b × (a * b ≤ most)

module _ (funs : List Fun) (p : Program) where
  abbrev pub IsStep : DataStep → Type 0
  IsStep (Array b) = IsBetween 1 MOST_BLOCKS b
  IsStep (ArrayAt b at len) = IsBetween 1 MOST_BLOCKS b × IsPlace at × IsPlace len
  IsStep (Matrix r c gr gc at) = IsExtent MOST_NUMBERS r c × IsExtent MOST_BLOCKS gr gc × IsPlace at
  IsStep (Map u k) = IsUse funs p 1 u × IsLine p need.Container k
  IsStep (MapIndex u k) = IsUse funs p (given 2 3 (shape_at p k)) u × IsLine p need.Container k
  IsStep (Zip u k l) = IsUse funs p 2 u × IsLine p need.Container k × IsLine p (need.Like (shape_at p k)) l
  IsStep (ZipIndex u k l) = IsUse funs p (given 3 4 (shape_at p k)) u × IsLine p need.Container k × IsLine p (need.Like (shape_at p k)) l
  IsStep (Fold op k) = IsOperator op × IsLine p need.Container k
  IsStep (Scan op k) = IsOperator op × IsLine p need.Array k
  IsStep (Foldl u first k) = IsUse funs p 2 u × IsArgument p first × IsLine p need.Array k
  IsStep (PermutePartition u k) = IsUse funs p 1 u × IsLine p need.Array k
  IsStep (Permute u k) = IsUse funs p 1 u × IsLine p need.Array k
  IsStep (BroadcastPartition j k) = IsLine p need.Array k × (j < blocks_of (shape_at p k))
  IsStep (RotateRows u k) = IsUse funs p 1 u × IsLine p need.Matrix k
  IsStep (RotateCols u k) = IsUse funs p 1 u × IsLine p need.Matrix k
  IsStep (Transpose k) = IsLine p need.Matrix k

-- ---- programs

-- a line may stand behind these
pub record LineFits (funs : List Fun) (p : Program) (l : DataLine) : Type 0 where
  pub name : IsTrue (is_name l.name)
  pub is_new : is_among (line_names p) l.name ≡ false
  pub step : IsStep funs p l.step

-- these lines behind others
abbrev pub program_of : Program → List DataLine → Program
program_of p [] = p
program_of p (l ∷ ls) = program_of (one_line p l) ls

-- each may stand behind those before it
abbrev pub EachLineFits : List Fun → Program → List DataLine → Type 0
EachLineFits funs p [] = Unit {0}
EachLineFits funs p (l ∷ ls) = LineFits funs p l × EachLineFits funs (one_line p l) ls

pub record ProgramFits (funs : List Fun) (d : DataProg) : Type 0 where
  pub few_lines : length d.lines ≤ MOST_DATA_LINES
  pub lines : EachLineFits funs no_lines d.lines
  pub gives : d.give < length d.lines
