-- Where elements stand: blocks, and rows and columns.
use Rattle.std.proofs.Common.{◌≡◌, ◌≢◌, ◌<◌, ◌+◌, ◌*◌, ◌/◌, ◌%◌, ℕ, zero, suc, ℤ, pos, negsuc, ◌+ℤ◌, ◌-ℤ◌, unsigned_abs, Bool, true, false, List, length, Result, Err, ◌==◌, refl, sym, ap, ◌∙◌, arith}
use Rattle.std.proofs.lemmas.Bool.{eqb-true}
use Rattle.std.proofs.lemmas.Bool.Decides.{nat_tests}
use Rattle.std.proofs.lemmas.Int.{ints, int_rem_euclid_is}
use Rattle.std.proofs.lemmas.List.FromFn.{length-map-range_with_len, get_or-map-range_with_len}
use Rattle.std.proofs.Math.Nat.{add-mul-mod_self_right, mod-eq_of_lt}
use Rattle.std.proofs.lemmas.Nat.{div-mul-add, mod-mul-add, mul-add-lt, div_below}
use Rattle.msl_base.specs.declared.fault.Fault.{Fault}
use Rattle.msl_base.specs.declared.fault.Fault.TheVariants.{Ragged}
use Rattle.msl_lists.specs.Whole.{at, cell, list_by, matrix_by, modulo, if_divisible}

-- ---- lists and matrices by place

pub long_by : (n : ℕ) (f : ℕ → ℤ) → length (list_by n f) ≡ n
long_by n f = length-map-range_with_len f 0 n

pub at_by : (n : ℕ) (f : ℕ → ℤ) (i : ℕ) → i < n → at (list_by n f) i ≡ f i
at_by n f i lt = get_or-map-range_with_len f 0 n i i (pos 0) lt (omega arith)

pub cell_by : (rows cols : ℕ) (f : ℕ → ℕ → ℤ) (r c : ℕ) → r < rows → c < cols → cell cols (matrix_by rows cols f) r c ≡ f r c
cell_by rows cols f r c p q =
    let inside : r * cols + c < rows * cols = omega (arith, mul-add-lt r cols c rows p q) in
    at_by (rows * cols) (λ i. f (i / cols) (i % cols)) (r * cols + c) inside
    ∙ ap (λ x. f x ((r * cols + c) % cols)) (div-mul-add r cols c q)
    ∙ ap (f r) (mod-mul-add r cols c q)

-- ---- blocks of one size

-- n is b blocks of n / b
pub whole_blocks : (n b : ℕ) → n % b ≡ 0 → b * (n / b) ≡ n
whole_blocks n b e = omega arith

-- which are not empty where n has a place
some_width : (n b i : ℕ) → n % b ≡ 0 → i < n → 0 < n / b
some_width n b i e lt = positive (n / b) (whole_blocks n b e)
  where
    positive : (k : ℕ) → b * k ≡ n → 0 < k
    positive zero h = absurd (omega arith)
    positive (suc k) h = omega arith

-- place i of n lies in one of them
block_below : (n b i : ℕ) → n % b ≡ 0 → i < n → i / (n / b) < b
block_below n b i e lt = let whole = whole_blocks n b e in div_below i (n / b) b (some_width n b i e lt) (omega arith)

pub divisible : (stage n b : ℕ) (r : Result (List ℤ) Fault) → n % b ≡ 0 → if_divisible stage n b r ≡ r
divisible stage n b r e = grind (arith, nat_tests)

pub ragged : (stage n b : ℕ) (r : Result (List ℤ) Fault) → n % b ≢ 0 → if_divisible stage n b r ≡ Err (Ragged stage)
ragged stage n b r e = grind (arith, nat_tests)

-- what is refused as ragged is, where nothing else is
pub ragged_only : (stage n b : ℕ) (r : Result (List ℤ) Fault) → r ≢ Err (Ragged stage) → if_divisible stage n b r ≡ Err (Ragged stage) → n % b ≢ 0
ragged_only stage n b r other h = λ e. other (sym (divisible stage n b r e) ∙ h)

-- any other answer comes where the blocks are of one size
pub divisible_else : (stage n b : ℕ) (r : Result (List ℤ) Fault) → if_divisible stage n b r ≢ Err (Ragged stage) → n % b ≡ 0
divisible_else stage n b r other = go (n % b == 0) refl
  where
    go : (t : Bool) → (n % b == 0) ≡ t → n % b ≡ 0
    go true e = eqb-true (n % b) 0 e
    go false e = absurd (other (rw e refl))

-- ---- remainders

-- z and r are so many n apart
record Turns (z : ℤ) (n r : ℕ) : Type 0 where
  up : ℕ
  down : ℕ
  is : z +ℤ pos (up * n) ≡ pos (r + down * n)

modulo_is : (z : ℤ) (n k m : ℕ) → 0 < n → z +ℤ pos (k * n) ≡ pos m → modulo z n ≡ m % n
modulo_is z n k m some e = ap unsigned_abs (int_rem_euclid_is z (pos n) n k m some refl e)

modulo_below : (z : ℤ) (n : ℕ) → 0 < n → modulo z n < n
modulo_below (pos a) n some = omega arith
modulo_below (negsuc a) n some = omega arith

turns : (z : ℤ) (n : ℕ) → 0 < n → Turns z n (modulo z n)
turns (pos a) n some = record { up = 0; down = a / n; is = omega (arith, ints) }
turns (negsuc a) n some = record { up = a / n + 1; down = 0; is = omega (arith, ints) }

-- what moved to a place came from there
turned_back : (q : ℕ) (by : ℤ) (n : ℕ) → q < n → modulo (pos (modulo (pos q +ℤ by) n) -ℤ by) n ≡ q
turned_back q by n lt = go (modulo (pos q +ℤ by) n) (turns (pos q +ℤ by) n (omega arith))
  where
    go : (r : ℕ) → Turns (pos q +ℤ by) n r → modulo (pos r -ℤ by) n ≡ q
    go r t =
        let back : (pos r -ℤ by) +ℤ pos (t.down * n) ≡ pos (q + t.up * n) = omega (arith, ints, t.is) in
        modulo_is (pos r -ℤ by) n t.down (q + t.up * n) (omega arith) back ∙ add-mul-mod_self_right q t.up n ∙ mod-eq_of_lt lt

-- and what moves to where it came from is there again
turned_on : (q : ℕ) (by : ℤ) (n : ℕ) → q < n → modulo (pos (modulo (pos q -ℤ by) n) +ℤ by) n ≡ q
turned_on q by n lt = go (modulo (pos q -ℤ by) n) (turns (pos q -ℤ by) n (omega arith))
  where
    go : (r : ℕ) → Turns (pos q -ℤ by) n r → modulo (pos r +ℤ by) n ≡ q
    go r t =
        let on : (pos r +ℤ by) +ℤ pos (t.down * n) ≡ pos (q + t.up * n) = omega (arith, ints, t.is) in
        modulo_is (pos r +ℤ by) n t.down (q + t.up * n) (omega arith) on ∙ add-mul-mod_self_right q t.up n ∙ mod-eq_of_lt lt

-- place i of n, which lies in one of b blocks of a size, moves within the n, and back
abbrev pub moved_to : ℕ → ℕ → ℤ → ℕ → ℕ
moved_to n b by i = modulo (pos (i / (n / b)) +ℤ by) b * (n / b) + i % (n / b)

abbrev pub moved_from : ℕ → ℕ → ℤ → ℕ → ℕ
moved_from n b by i = modulo (pos (i / (n / b)) -ℤ by) b * (n / b) + i % (n / b)

module _ (n b i : ℕ) (by : ℤ) (whole : n % b ≡ 0) (lt : i < n) where
  turned_below : (z : ℤ) → modulo z b < b
  turned_below z = modulo_below z b (omega (arith, block_below n b i whole lt))

  rest_below : i % (n / b) < n / b
  rest_below = let some = some_width n b i whole lt in omega arith

  within : (to : ℕ) → to < b → to * (n / b) + i % (n / b) < n
  within to inside = omega (arith, mul-add-lt to (n / b) (i % (n / b)) b inside rest_below, whole_blocks n b whole)

  -- as far into the block that turns to the block of i as i is in its own
  turns_at : (turn : ℕ → ℕ) (from : ℕ) → turn from ≡ i / (n / b) → turn ((from * (n / b) + i % (n / b)) / (n / b)) * (n / b) + (from * (n / b) + i % (n / b)) % (n / b) ≡ i
  turns_at turn from e =
      let k = n / b in
      ap (λ x. turn x * k + (from * k + i % k) % k) (div-mul-add from k (i % k) rest_below)
      ∙ ap (λ x. turn from * k + x) (mod-mul-add from k (i % k) rest_below)
      ∙ ap (λ x. x * k + i % k) e
      ∙ omega arith

  pub moved_below : moved_to n b by i < n
  moved_below = within (modulo (pos (i / (n / b)) +ℤ by) b) (turned_below (pos (i / (n / b)) +ℤ by))

  pub moved_from_below : moved_from n b by i < n
  moved_from_below = within (modulo (pos (i / (n / b)) -ℤ by) b) (turned_below (pos (i / (n / b)) -ℤ by))

  pub moved_back : moved_from n b by (moved_to n b by i) ≡ i
  moved_back = turns_at (λ x. modulo (pos x -ℤ by) b) (modulo (pos (i / (n / b)) +ℤ by) b) (turned_back (i / (n / b)) by b (block_below n b i whole lt))

  pub moved_on : moved_to n b by (moved_from n b by i) ≡ i
  moved_on = turns_at (λ x. modulo (pos x +ℤ by) b) (modulo (pos (i / (n / b)) -ℤ by) b) (turned_on (i / (n / b)) by b (block_below n b i whole lt))
