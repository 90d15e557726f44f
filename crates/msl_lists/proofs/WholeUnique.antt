-- Equations of whole lists that have one answer.
use Rattle.std.proofs.Common.{◌≡◌, ◌≢◌, ◌==◌, Bool, ◌<◌, ◌≤◌, ◌+◌, ◌*◌, ◌/◌, ◌%◌, ℕ, zero, suc, ℤ, pos, false, true, List, [], ◌∷◌, length, Result, Ok, Err, IsOk, refl, sym, ap, ◌∙◌, inl, inr, ◌⊎◌, arith}
use Rattle.std.proofs.lemmas.Bool.{cases_order, eqb-true, eq-eqb}
use Rattle.std.proofs.lemmas.List.{ext_get_or}
use Rattle.std.proofs.lemmas.Nat.{div_below}
use Rattle.msl_base.specs.declared.fault.Fault.{Fault}
use Rattle.msl_base.proofs.Tiles.{tiles}
use Rattle.msl_ops.specs.declared.op.Op.{Op}
use Rattle.msl_fun.specs.declared.fault.EvalFault.{EvalFault}
use Rattle.msl_lists.specs.Whole.{Function, Extent, at, cell}
use Rattle.msl_lists.specs.WholeLaws.{IsEach, IsEachPair, Combines, Passes, AnswersBelow, IsBijection, MovesElements, MovesBlocks, RepeatsBlock, RotatesRows, RotatesCols, Transposes}
use Rattle.msl_lists.proofs.WholeMoves.{moved_to, moved_from, moved_from_below, moved_on}

-- ---- element by element

no_value : (r : Result ℤ Fault) (e : Fault) → IsOk r → r ≡ Err e → ⊥
no_value (Ok x) e ok h = cc
no_value (Err f) e ok h = cc

pub one_each : (n : ℕ) (f : ℕ → Result ℤ Fault) (r s : Result (List ℤ) Fault) → IsEach n f r → IsEach n f s → r ≡ s
one_each n f (Ok xs) (Ok ys) p q = ap Ok (ext_get_or (pos 0) xs ys (p.0 ∙ sym q.0) (λ i lt. same i (omega (arith, p.0))))
  where
    same : (i : ℕ) → i < n → at xs i ≡ at ys i
    same i lt = let a = p.1 i lt in let b = q.1 i lt in cc
one_each n f (Ok xs) (Err e) p q = let a = p.1 q.0 q.1 in let b = q.2 in absurd (cc)
one_each n f (Err e) (Ok ys) p q = let a = q.1 p.0 p.1 in let b = p.2 in absurd (cc)
one_each n f (Err d) (Err e) p q = go (cases_order p.0 q.0)
  where
    go : (p.0 ≡ q.0) ⊎ ((p.0 < q.0) ⊎ (q.0 < p.0)) → ◌≡◌ {A = Result (List ℤ) Fault} (Err d) (Err e)
    go (inl same) = let a = p.2 in let b = ap f same ∙ q.2 in cc
    go (inr (inl lt)) = absurd (no_value (f p.0) d (q.3 p.0 lt) p.2)
    go (inr (inr lt)) = absurd (no_value (f q.0) e (p.3 q.0 lt) q.2)

pub one_pair : (stage : ℕ) (a c : List ℤ) (f : ℕ → Result ℤ Fault) (r s : Result (List ℤ) Fault) → IsEachPair stage a c f r → IsEachPair stage a c f s → r ≡ s
one_pair stage a c f r s p q = go (length c == length a) refl
  where
    go : (b : Bool) → (length c == length a) ≡ b → r ≡ s
    go true e = let same = eqb-true (length c) (length a) e in one_each (length a) f r s (p.0 same) (q.0 same)
    go false e = let other : length c ≢ length a = λ h. let wrong = sym (eq-eqb (length c) (length a) h) ∙ e in cc in p.1 other ∙ sym (q.1 other)

-- ---- from the first element to the last

pub one_combined : (op : Op) (a : List ℤ) (c d : ℕ → ℤ) → Combines op a c → Combines op a d → (i : ℕ) → i ≤ length a → c i ≡ d i
one_combined op a c d p q zero lt = p.first ∙ sym q.first
one_combined op a c d p q (suc i) lt =
    let more : i + 1 ≡ suc i = omega arith in
    let same = one_combined op a c d p q i (omega arith) in
    let x = p.next i (omega arith) in
    let y = q.next i (omega arith) in
    ap c (sym more) ∙ x ∙ rw same (sym y) ∙ ap d more

pub one_passed : (u : Function) (s : ℤ) (a : List ℤ) (n : ℕ) (g h : ℕ → ℤ) → Passes u s a n g → Passes u s a n h → (i : ℕ) → i ≤ n → g i ≡ h i
one_passed u s a n g h p q zero lt = p.first ∙ sym q.first
one_passed u s a n g h p q (suc i) lt =
    let more : i + 1 ≡ suc i = omega arith in
    let same = one_passed u s a n g h p q i (omega arith) in
    let x = p.next i (omega arith) in
    let y = q.next i (omega arith) in
    let next : g (i + 1) ≡ h (i + 1) = cc in
    ap g (sym more) ∙ next ∙ ap h more

-- ---- rows and columns, or blocks and places in them

pub some_cols : (rows cols i : ℕ) → i < rows * cols → 0 < cols
some_cols rows zero i lt = absurd (omega arith)
some_cols rows (suc cols) i lt = omega arith

same_cells : (rows cols : ℕ) (x y : List ℤ) → length x ≡ rows * cols → length y ≡ rows * cols → ((r c : ℕ) → r < rows → c < cols → cell cols x r c ≡ cell cols y r c) → x ≡ y
same_cells rows cols x y p q h = ext_get_or (pos 0) x y (p ∙ sym q) (λ i lt. here i (omega (arith, p)))
  where
    here : (i : ℕ) → i < rows * cols → at x i ≡ at y i
    here i lt =
        let some = some_cols rows cols i lt in
        let is : i / cols * cols + i % cols ≡ i = omega arith in
        ap (at x) (sym is) ∙ h (i / cols) (i % cols) (div_below i cols rows some lt) (omega arith) ∙ ap (at y) is

-- ---- moves

pub one_moved : (u : Function) (a x y : List ℤ) → IsBijection u (length a) → MovesElements u a x → MovesElements u a y → x ≡ y
one_moved u a x y b p q = ext_get_or (pos 0) x y (p.long ∙ sym q.long) (λ i lt. here i (omega (arith, p.long)))
  where
    here : (i : ℕ) → i < length a → at x i ≡ at y i
    here i lt = let from = b.onto i lt in p.lands from.0 i from.1 from.2 ∙ sym (q.lands from.0 i from.1 from.2)

pub one_moved_blocks : (u : Function) (b k : ℕ) (a x y : List ℤ) → IsBijection u b → length a ≡ b * k → MovesBlocks u b k a x → MovesBlocks u b k a y → x ≡ y
one_moved_blocks u b k a x y bijection whole p q = same_cells b k x y (p.long ∙ whole) (q.long ∙ whole) (λ to t lt inside.
    let from = bijection.onto to lt in
    p.lands from.0 t to from.1 inside from.2 ∙ sym (q.lands from.0 t to from.1 inside from.2))

pub one_repeated : (j k : ℕ) (a x y : List ℤ) → RepeatsBlock j k a x → RepeatsBlock j k a y → x ≡ y
one_repeated j k a x y p q = ext_get_or (pos 0) x y (p.long ∙ sym q.long) (λ i lt. let inside : i < length a = omega (arith, p.long) in p.lands i inside ∙ sym (q.lands i inside))

-- ---- matrices

value_there : (r : Result ℤ EvalFault) → IsOk r → (z : ℤ) × (r ≡ Ok z)
value_there (Ok z) h = (z, refl)
value_there (Err e) h = absurd (cc)

pub one_rotated_rows : (u : Function) (m : Extent) (a x y : List ℤ) → 1 ≤ m.grid_rows → m.cols % m.grid_cols ≡ 0 → AnswersBelow u m.grid_rows
    → RotatesRows u m (m.cols / m.grid_cols) a x → RotatesRows u m (m.cols / m.grid_cols) a y → x ≡ y
one_rotated_rows u m a x y some whole all p q = same_cells m.rows m.cols x y p.long q.long (λ r c lt inside.
    let s = (tiles m.rows m.grid_rows some).each r lt in
    let by = value_there (u (pos s.0 ∷ [])) (all s.0 s.1) in
    let from = moved_from m.cols m.grid_cols by.0 c in
    let below = moved_from_below m.cols m.grid_cols c by.0 whole inside in
    let to : moved_to m.cols m.grid_cols by.0 from ≡ c = moved_on m.cols m.grid_cols c by.0 whole inside in
    ap (cell m.cols x r) (sym to) ∙ p.lands r from s.0 by.0 lt below s.1 s.2 by.1 ∙ sym (q.lands r from s.0 by.0 lt below s.1 s.2 by.1) ∙ ap (cell m.cols y r) to)

pub one_rotated_cols : (u : Function) (m : Extent) (a x y : List ℤ) → 1 ≤ m.grid_cols → m.rows % m.grid_rows ≡ 0 → AnswersBelow u m.grid_cols
    → RotatesCols u m (m.rows / m.grid_rows) a x → RotatesCols u m (m.rows / m.grid_rows) a y → x ≡ y
one_rotated_cols u m a x y some whole all p q = same_cells m.rows m.cols x y p.long q.long (λ r c lt inside.
    let t = (tiles m.cols m.grid_cols some).each c inside in
    let by = value_there (u (pos t.0 ∷ [])) (all t.0 t.1) in
    let from = moved_from m.rows m.grid_rows by.0 r in
    let below = moved_from_below m.rows m.grid_rows r by.0 whole lt in
    let to : moved_to m.rows m.grid_rows by.0 from ≡ r = moved_on m.rows m.grid_rows r by.0 whole lt in
    ap (λ k. cell m.cols x k c) (sym to) ∙ p.lands from c t.0 by.0 below inside t.1 t.2 by.1 ∙ sym (q.lands from c t.0 by.0 below inside t.1 t.2 by.1) ∙ ap (λ k. cell m.cols y k c) to)

pub one_transposed : (m : Extent) (a x y : List ℤ) → Transposes m a x → Transposes m a y → x ≡ y
one_transposed m a x y p q = same_cells m.cols m.rows x y p.long q.long (λ c r lt inside. p.lands r c inside lt ∙ sym (q.lands r c inside lt))
