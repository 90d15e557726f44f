-- The equations of the operations on whole lists, forward: where each element stands in the answer.
use Rattle.std.specs.Prelude.{◌≡◌, ◌≢◌, ℕ, ◌+◌, ◌*◌, ◌/◌, ◌%◌, ◌<◌, ℤ, pos, ◌+ℤ◌, List, [], ◌∷◌, ◌++◌, length, Result, Ok, Err, IsOk}
use Rattle.std.specs.List.{flat_map}
use Rattle.msl_base.specs.declared.fault.Fault.{Fault}
use Rattle.msl_base.specs.declared.fault.Fault.TheVariants.{Shape}
use Rattle.msl_ops.specs.declared.op.Op.{Op}
use Rattle.msl_ops.specs.Meaning.{unit_of, lift_of, combine_of}
use Rattle.msl_fun.specs.declared.fault.EvalFault.{EvalFault}
use Rattle.msl_base.specs.Blocks.{IsInBlock}
use Rattle.msl_lists.specs.Whole.{◌>>=◌, Function, Extent, at, cell, modulo, transposed}

-- n numbers, of which f gives each, or the fault of the least position
abbrev pub IsEach : ℕ → (ℕ → Result ℤ Fault) → Result (List ℤ) Fault → Type 0
IsEach n f (Ok ys) = (length ys ≡ n) × ((i : ℕ) → i < n → f i ≡ Ok (at ys i))
IsEach n f (Err fault) = (i : ℕ) × (i < n) × (f i ≡ Err fault) × ((k : ℕ) → k < i → IsOk (f k))

-- the same of two lists; where their lengths differ, they are refused
abbrev pub IsEachPair : ℕ → List ℤ → List ℤ → (ℕ → Result ℤ Fault) → Result (List ℤ) Fault → Type 0
IsEachPair stage a c f r = (length c ≡ length a → IsEach (length a) f r) × (length c ≢ length a → r ≡ Err (Shape stage (length c) (length a)))

-- the values of both, or the first fault
abbrev pub both : {A E : Type 0} → Result (List A) E → Result (List A) E → Result (List A) E
both p q = p >>= λ xs. q >>= λ ys. Ok (xs ++ ys)

-- the values of all parts, or the fault
abbrev pub joined : {A E : Type 0} → Result (List (List A)) E → Result (List A) E
joined r = r >>= λ parts. Ok (flat_map (λ xs. xs) parts)

-- ---- from the first element to the last

-- c i is what the first i elements combine to
pub record Combines (op : Op) (a : List ℤ) (c : ℕ → ℤ) : Type 0 where
  pub first : c 0 ≡ unit_of op.kind op.modulus
  pub next : (i : ℕ) → i < length a → c (i + 1) ≡ combine_of op.kind op.modulus (c i) (lift_of op.kind op.modulus (at a i))

-- g i is what u makes of s and the first i elements, up to n of them
pub record Passes (u : Function) (s : ℤ) (a : List ℤ) (n : ℕ) (g : ℕ → ℤ) : Type 0 where
  pub first : g 0 ≡ s
  pub next : (i : ℕ) → i < n → u (g i ∷ at a i ∷ []) ≡ Ok (g (i + 1))

-- ---- moves

abbrev pub AnswersBelow : Function → ℕ → Type 0
AnswersBelow u n = (i : ℕ) → i < n → IsOk (u (pos i ∷ []))

-- the fault of the least place below n
pub record FaultsFirst (u : Function) (n : ℕ) (e : EvalFault) : Type 0 where
  pub place : ℕ
  pub below : place < n
  pub faults : u (pos place ∷ []) ≡ Err e
  pub before : AnswersBelow u place

-- one to one from the places below n onto the places below n
pub record IsBijection (u : Function) (n : ℕ) : Type 0 where
  pub within : (i : ℕ) → i < n → (to : ℕ) × (to < n) × (u (pos i ∷ []) ≡ Ok (pos to))
  pub one_to_one : (i j : ℕ) → i < n → j < n → u (pos i ∷ []) ≡ u (pos j ∷ []) → i ≡ j
  pub onto : (to : ℕ) → to < n → (i : ℕ) × (i < n) × (u (pos i ∷ []) ≡ Ok (pos to))

pub record MovesElements (u : Function) (a moved : List ℤ) : Type 0 where
  pub long : length moved ≡ length a
  pub lands : (i to : ℕ) → i < length a → u (pos i ∷ []) ≡ Ok (pos to) → at moved to ≡ at a i

-- b blocks of k elements
pub record MovesBlocks (u : Function) (b k : ℕ) (a moved : List ℤ) : Type 0 where
  pub long : length moved ≡ length a
  pub lands : (j t to : ℕ) → j < b → t < k → u (pos j ∷ []) ≡ Ok (pos to) → at moved (to * k + t) ≡ at a (j * k + t)

-- block j, of k elements, in the place of each
pub record RepeatsBlock (j k : ℕ) (a repeated : List ℤ) : Type 0 where
  pub long : length repeated ≡ length a
  pub lands : (i : ℕ) → i < length a → at repeated i ≡ at a (j * k + i % k)

-- ---- matrices

-- the blocks of block row s are w columns wide
pub record RotatesRows (u : Function) (m : Extent) (w : ℕ) (a moved : List ℤ) : Type 0 where
  pub long : length moved ≡ m.rows * m.cols
  pub lands : (r c s : ℕ) (by : ℤ) → r < m.rows → c < m.cols → s < m.grid_rows → IsInBlock m.rows m.grid_rows s r → u (pos s ∷ []) ≡ Ok by
      → cell m.cols moved r (modulo (pos (c / w) +ℤ by) m.grid_cols * w + c % w) ≡ cell m.cols a r c

-- the blocks of block column t are h rows high
pub record RotatesCols (u : Function) (m : Extent) (h : ℕ) (a moved : List ℤ) : Type 0 where
  pub long : length moved ≡ m.rows * m.cols
  pub lands : (r c t : ℕ) (by : ℤ) → r < m.rows → c < m.cols → t < m.grid_cols → IsInBlock m.cols m.grid_cols t c → u (pos t ∷ []) ≡ Ok by
      → cell m.cols moved (modulo (pos (r / h) +ℤ by) m.grid_rows * h + r % h) c ≡ cell m.cols a r c

pub record Transposes (m : Extent) (a turned : List ℤ) : Type 0 where
  pub long : length turned ≡ (transposed m).rows * (transposed m).cols
  pub lands : (r c : ℕ) → r < m.rows → c < m.cols → cell (transposed m).cols turned c r ≡ cell m.cols a r c
