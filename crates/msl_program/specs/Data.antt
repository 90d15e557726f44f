-- What a data program gives: a table of values, extended line by line up to the first fault.
use Rattle.std.specs.Prelude.{ℕ, ◌+◌, ◌*◌, nat_lt, ℤ, pos, List, [], ◌∷◌, ◌++◌, length, map, take, drop, slice_index_or, Result, Ok, Err, if◌then◌else◌}
use Rattle.msl_base.specs.Streams.{Record, Outcome}
use Rattle.msl_base.specs.declared.fault.Fault.{Fault}
use Rattle.msl_base.specs.declared.fault.Fault.TheVariants.{Shape}
use Rattle.msl_fun.specs.declared.funs.Fun.{Fun}
use Rattle.msl_lists.specs.Whole.{◌>>=◌, at, Function, Extent, transposed, use_of, map_all, map_index, map_cells, zip_all, zip_index, zip_cells, fold_all, scan_all, foldl_all, permute, permute_partition, broadcast_partition, rotate_rows, rotate_cols, transpose}
use Rattle.msl_program.specs.declared.data.Arg.{Arg}
use Rattle.msl_program.specs.declared.data.Arg.TheVariants.{Number, Lit}
use Rattle.msl_program.specs.declared.data.UseSpec.{UseSpec}
use Rattle.msl_program.specs.declared.data.DataStep.{DataStep}
use Rattle.msl_program.specs.declared.data.DataStep.TheVariants.{Array, ArrayAt, Matrix, Map, MapIndex, Zip, ZipIndex, Fold, Scan, Foldl, PermutePartition, Permute, BroadcastPartition, RotateRows, RotateCols, Transpose}
use Rattle.msl_program.specs.declared.data.DataLine.{DataLine}
use Rattle.msl_program.specs.declared.data.DataProg.{DataProg}

-- a value of a data program: a list in so many blocks, a matrix row by row, or a number
pub data Value : Type 0 where
  list : ℕ → List ℤ → Value
  matrix : Extent → List ℤ → Value
  number : ℤ → Value

abbrev pub elements : Value → List ℤ
elements (list b a) = a
elements (matrix m a) = a
elements (number z) = z ∷ []

abbrev pub extent : ℕ → ℕ → ℕ → ℕ → Extent
extent r c p q = record { rows = r; cols = c; grid_rows = p; grid_cols = q }

-- the same kind, blocks and extent, with other elements
abbrev pub with_elements : Value → List ℤ → Value
with_elements (list b _) a = list b a
with_elements (matrix m _) a = matrix m a
with_elements (number _) a = number (at a 0)

-- the values of the lines so far, in order
abbrev pub Table : Type 0
Table = List Value

-- Where the lines fit the functions, each value has the shape of its line, and the fallbacks here are never met.
abbrev pub nothing : Value
nothing = number (pos 0)

abbrev pub value_of : Table → ℕ → Value
value_of table k = slice_index_or table k nothing

abbrev pub blocks_in : Value → ℕ
blocks_in (list b a) = b
blocks_in _ = 1

abbrev pub extent_of : Value → Extent
extent_of (matrix m a) = m
extent_of v = extent 1 (length (elements v)) 1 1

abbrev pub argument : Table → Arg → ℤ
argument table (Number k) = at (elements (value_of table k)) 0
argument table (Lit z) = z

module _ (funs : List Fun) (stage : ℕ) (x : Record) where
  -- a function with its first arguments from the table
  abbrev pub used : Table → UseSpec → Function
  used table u = use_of funs u.fun (map (argument table) u.args)

  -- len numbers of the record from a place on
  abbrev pub cut : ℕ → ℕ → Result (List ℤ) Fault
  cut from len = if nat_lt (length x) (from + len) then Err (Shape stage (length x) (from + len)) else Ok (take len (drop from x))

  abbrev pub mapped_index : Function → Value → Result (List ℤ) Fault
  mapped_index u (matrix m a) = map_cells u stage m.cols a
  mapped_index u v = map_index u stage (elements v)

  abbrev pub zipped_index : Function → Value → Value → Result (List ℤ) Fault
  zipped_index u (matrix m a) w = zip_cells u stage m.cols a (elements w)
  zipped_index u v w = zip_index u stage (elements v) (elements w)

  -- a value of the same kind with these elements, or the fault
  abbrev pub like : Value → Result (List ℤ) Fault → Result Value Fault
  like v r = r >>= λ a. Ok (with_elements v a)

  abbrev pub one_number : Result ℤ Fault → Result Value Fault
  one_number r = r >>= λ z. Ok (number z)

  -- a step that works on one value, or on two
  abbrev pub step_on : Table → DataStep → Result Value Fault
  step_on t (Array b) = Ok (list b x)
  step_on t (ArrayAt b from len) = cut from len >>= λ a. Ok (list b a)
  step_on t (Matrix r c p q from) = cut from (r * c) >>= λ a. Ok (matrix (extent r c p q) a)
  step_on t (Map u k) = let v = value_of t k in like v (map_all (used t u) stage (elements v))
  step_on t (MapIndex u k) = let v = value_of t k in like v (mapped_index (used t u) v)
  step_on t (Zip u k l) = let v = value_of t k in like v (zip_all (used t u) stage (elements v) (elements (value_of t l)))
  step_on t (ZipIndex u k l) = let v = value_of t k in like v (zipped_index (used t u) v (value_of t l))
  step_on t (Fold op k) = one_number (fold_all op stage (elements (value_of t k)))
  step_on t (Scan op k) = let v = value_of t k in like v (scan_all op stage (elements v))
  step_on t (Foldl u s k) = one_number (foldl_all (used t u) stage (argument t s) (elements (value_of t k)))
  step_on t (PermutePartition u k) = let v = value_of t k in like v (permute_partition (used t u) stage (blocks_in v) (elements v))
  step_on t (Permute u k) = let v = value_of t k in like v (permute (used t u) stage (elements v))
  step_on t (BroadcastPartition j k) = let v = value_of t k in like v (broadcast_partition j stage (blocks_in v) (elements v))
  step_on t (RotateRows u k) = let v = value_of t k in like v (rotate_rows (used t u) stage (extent_of v) (elements v))
  step_on t (RotateCols u k) = let v = value_of t k in like v (rotate_cols (used t u) stage (extent_of v) (elements v))
  step_on t (Transpose k) = let v = value_of t k in Ok (matrix (transposed (extent_of v)) (transpose (extent_of v) (elements v)))

  abbrev pub extended : Table → List DataLine → Result Table Fault
  extended t [] = Ok t
  extended t (l ∷ ls) = step_on t l.step >>= λ v. extended (t ++ v ∷ []) ls

-- the value of the name that is given, as a record
abbrev pub data_outcome : List Fun → DataProg → ℕ → Record → Outcome
data_outcome funs prog stage x = extended funs stage x [] prog.lines >>= λ t. Ok (elements (value_of t prog.give))
