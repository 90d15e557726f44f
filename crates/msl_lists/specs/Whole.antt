-- Operations on whole lists, of which data programs are made. Where several positions fault, the fault of the least is the answer.
use Rattle.std.specs.Prelude.{ℕ, ◌+◌, ◌*◌, ◌/◌, ◌%◌, Bool, ◌==◌, ℤ, pos, ◌-ℤ◌, unsigned_abs, List, [], ◌∷◌, ◌++◌, map, length, take, slice_index_or, Result, Ok, Err, if◌then◌else◌}
use Rattle.std.specs.List.{list_all, list_any, position_or_len, range_with_len}
use Rattle.std.specs.Int.{int_rem_euclid}
use Rattle.msl_base.specs.declared.fault.Fault.{Fault}
use Rattle.msl_base.specs.declared.fault.Fault.TheVariants.{Shape, Overflow, DivZero, Steps, NotPermutation, Ragged}
use Rattle.msl_ops.specs.declared.op.Op.{Op}
use Rattle.msl_ops.specs.Meaning.{fold_of, settle}
use Rattle.msl_fun.specs.declared.fault.EvalFault.{EvalFault}
use Rattle.msl_fun.specs.declared.fault.EvalFault.TheVariants as fault
use Rattle.msl_fun.specs.declared.funs.Fun.{Fun}
use Rattle.msl_fun.specs.declared.muscle.Use.{Use}
use Rattle.msl_base.specs.Blocks.{block_of}
use Rattle.msl_fun.specs.Meaning.{same, call, meanings, limited}

-- ---- functions, and their faults at a stage

-- takes numbers, and gives one
abbrev pub Function : Type 0
Function = List ℤ → Result ℤ EvalFault

-- the first result of function number f, whose first arguments are given
abbrev pub use_of : List Fun → ℕ → List ℤ → Function
use_of funs f given args = limited 0 (call (meanings [] funs) f (given ++ args))

-- a function with its first arguments given
abbrev pub function_of : Use → Function
function_of u = use_of u.f.funs.now u.f.at u.extra

-- a fault of an evaluation is one of the stage
abbrev pub at_stage : {A : Type 0} → ℕ → Result A EvalFault → Result A Fault
at_stage stage (Ok x) = Ok x
at_stage stage (Err fault.Overflow) = Err (Overflow stage)
at_stage stage (Err fault.DivZero) = Err (DivZero stage)
at_stage stage (Err fault.Steps) = Err (Steps stage)

-- one after the other; a fault ends both
infixl 10 ◌>>=◌
abbrev pub ◌>>=◌ : {A B E : Type 0} → Result A E → (A → Result B E) → Result B E
(Ok x) >>= go = go x
(Err e) >>= go = Err e

-- all values, or the first fault
abbrev pub collect : {A E : Type 0} → List (Result A E) → Result (List A) E
collect [] = Ok []
collect (r ∷ rs) = r >>= λ x. collect rs >>= λ xs. Ok (x ∷ xs)

-- ---- places

abbrev pub below : ℕ → List ℕ
below n = range_with_len 0 n

abbrev pub at : List ℤ → ℕ → ℤ
at a i = slice_index_or a i (pos 0)

-- n numbers, by what stands at each place
abbrev pub list_by : ℕ → (ℕ → ℤ) → List ℤ
list_by n f = map f (below n)

-- what f gives at each place below n, or the fault of the least
abbrev pub each : {A E : Type 0} → ℕ → (ℕ → Result A E) → Result (List A) E
each n f = collect (map f (below n))

-- ---- element by element. In a matrix of so many columns, which lies row by row, a place has a row and a column.

abbrev pub map_all : Function → ℕ → List ℤ → Result (List ℤ) Fault
map_all u stage a = each (length a) (λ i. at_stage stage (u (at a i ∷ [])))

abbrev pub map_index : Function → ℕ → List ℤ → Result (List ℤ) Fault
map_index u stage a = each (length a) (λ i. at_stage stage (u (pos i ∷ at a i ∷ [])))

abbrev pub map_cells : Function → ℕ → ℕ → List ℤ → Result (List ℤ) Fault
map_cells u stage cols a = each (length a) (λ i. at_stage stage (u (pos (i / cols) ∷ pos (i % cols) ∷ at a i ∷ [])))

-- only where the lists have one length
abbrev pub if_same_length : ℕ → List ℤ → List ℤ → Result (List ℤ) Fault → Result (List ℤ) Fault
if_same_length stage a c r = if length c == length a then r else Err (Shape stage (length c) (length a))

abbrev pub zip_all : Function → ℕ → List ℤ → List ℤ → Result (List ℤ) Fault
zip_all u stage a c = if_same_length stage a c (each (length a) (λ i. at_stage stage (u (at a i ∷ at c i ∷ []))))

abbrev pub zip_index : Function → ℕ → List ℤ → List ℤ → Result (List ℤ) Fault
zip_index u stage a c = if_same_length stage a c (each (length a) (λ i. at_stage stage (u (pos i ∷ at a i ∷ at c i ∷ []))))

abbrev pub zip_cells : Function → ℕ → ℕ → List ℤ → List ℤ → Result (List ℤ) Fault
zip_cells u stage cols a c =
    if_same_length stage a c (each (length a) (λ i. at_stage stage (u (pos (i / cols) ∷ pos (i % cols) ∷ at a i ∷ at c i ∷ []))))

-- ---- from the first element to the last

abbrev pub fold_all : Op → ℕ → List ℤ → Result ℤ Fault
fold_all op stage a = settle stage (fold_of op.kind op.modulus a)

-- number i is the fold up to and with element i
abbrev pub scan_all : Op → ℕ → List ℤ → Result (List ℤ) Fault
scan_all op stage a = each (length a) (λ i. fold_all op stage (take (i + 1) a))

-- u takes the value so far and the next element
abbrev pub foldl_all : Function → ℕ → ℤ → List ℤ → Result ℤ Fault
foldl_all u stage s [] = Ok s
foldl_all u stage s (x ∷ xs) = at_stage stage (u (s ∷ x ∷ [])) >>= λ g. foldl_all u stage g xs

-- ---- moves: element or block number i goes to place `at targets i`

-- each place below n is the target of one of n
abbrev pub is_bijection : ℕ → List ℤ → Bool
is_bijection n targets = list_all (λ i. list_any (same (pos i)) targets) (below n)

-- whose target is i
abbrev pub source : List ℤ → ℕ → ℕ
source targets i = position_or_len (same (pos i)) targets

abbrev pub targets_of : Function → ℕ → ℕ → Result (List ℤ) Fault
targets_of u stage n =
    each n (λ i. at_stage stage (u (pos i ∷ []))) >>= λ targets. if is_bijection n targets then Ok targets else Err (NotPermutation stage)

-- only where n elements can lie in b blocks of one size
abbrev pub if_divisible : ℕ → ℕ → ℕ → Result (List ℤ) Fault → Result (List ℤ) Fault
if_divisible stage n b r = if n % b == 0 then r else Err (Ragged stage)

abbrev pub permute : Function → ℕ → List ℤ → Result (List ℤ) Fault
permute u stage a = targets_of u stage (length a) >>= λ targets. Ok (list_by (length a) (λ i. at a (source targets i)))

abbrev pub permute_partition : Function → ℕ → ℕ → List ℤ → Result (List ℤ) Fault
permute_partition u stage b a = if_divisible stage (length a) b (targets_of u stage b >>= λ targets. let k = length a / b in
    Ok (list_by (length a) (λ i. at a (source targets (i / k) * k + i % k))))

-- block j in the place of each
abbrev pub broadcast_partition : ℕ → ℕ → ℕ → List ℤ → Result (List ℤ) Fault
broadcast_partition j stage b a = if_divisible stage (length a) b (let k = length a / b in
    Ok (list_by (length a) (λ i. at a (j * k + i % k))))

-- ---- matrices

-- a matrix of rows and columns, in a grid of blocks
pub record Extent : Type 0 where
  pub rows : ℕ
  pub cols : ℕ
  pub grid_rows : ℕ
  pub grid_cols : ℕ

abbrev pub cell : ℕ → List ℤ → ℕ → ℕ → ℤ
cell cols a r c = at a (r * cols + c)

-- the matrix by what stands at each row and column
abbrev pub matrix_by : ℕ → ℕ → (ℕ → ℕ → ℤ) → List ℤ
matrix_by rows cols f = list_by (rows * cols) (λ i. f (i / cols) (i % cols))

-- the remainder from 0 to n - 1
abbrev pub modulo : ℤ → ℕ → ℕ
modulo z n = unsigned_abs (int_rem_euclid z (pos n))

-- in block row s the blocks move u(s) places to the right, and round
abbrev pub rotate_rows : Function → ℕ → Extent → List ℤ → Result (List ℤ) Fault
rotate_rows u stage m a = if_divisible stage m.cols m.grid_cols (each m.grid_rows (λ s. at_stage stage (u (pos s ∷ []))) >>= λ by. let w = m.cols / m.grid_cols in
    Ok (matrix_by m.rows m.cols (λ r c. cell m.cols a r (modulo (pos (c / w) -ℤ at by (block_of m.rows m.grid_rows r)) m.grid_cols * w + c % w))))

-- in block column t the blocks move u(t) places down, and round
abbrev pub rotate_cols : Function → ℕ → Extent → List ℤ → Result (List ℤ) Fault
rotate_cols u stage m a = if_divisible stage m.rows m.grid_rows (each m.grid_cols (λ t. at_stage stage (u (pos t ∷ []))) >>= λ by. let h = m.rows / m.grid_rows in
    Ok (matrix_by m.rows m.cols (λ r c. cell m.cols a (modulo (pos (r / h) -ℤ at by (block_of m.cols m.grid_cols c)) m.grid_rows * h + r % h) c)))

abbrev pub transposed : Extent → Extent
transposed m = record { rows = m.cols; cols = m.rows; grid_rows = m.grid_cols; grid_cols = m.grid_rows }

-- the matrix of the transposed extent
abbrev pub transpose : Extent → List ℤ → List ℤ
transpose m a = matrix_by m.cols m.rows (λ r c. cell m.cols a c r)
