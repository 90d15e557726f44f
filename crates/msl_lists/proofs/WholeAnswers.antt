-- What the operations answer, and that each equation has no other answer.
use Rattle.std.proofs.Common.{◌≡◌, ◌<◌, ◌≤◌, ◌+◌, ◌*◌, ◌/◌, ◌%◌, ℕ, ℤ, List, length, take, Result, Ok, Err, MatchResult, sym, subst, ap, ◌∙◌, arith}
use Rattle.std.proofs.lemmas.Nat.{div-mul-add, mod-mul-add, mul-add-lt}
use Rattle.std.proofs.Math.Seq.{take-length}
use Rattle.msl_base.specs.Blocks.{block_of}
use Rattle.msl_base.specs.declared.fault.Fault.{Fault}
use Rattle.msl_base.proofs.Tiles.{block_is}
use Rattle.msl_ops.specs.declared.op.Op.{Op}
use Rattle.msl_ops.specs.Meaning.{fold_of, settle}
use Rattle.msl_lists.specs.Whole.{Function, Extent, at, cell, each, if_same_length, list_by, matrix_by, fold_all, scan_all, source, targets_of, permute, permute_partition, broadcast_partition, rotate_rows, rotate_cols, transpose, ◌>>=◌}
use Rattle.msl_lists.specs.WholeLaws.{IsEach, IsEachPair, Combines, AnswersBelow, IsBijection, MovesElements, MovesBlocks, RepeatsBlock, RotatesRows, RotatesCols, Transposes}
use Rattle.msl_lists.proofs.WholeBijections.{AreValues, same_value, source_of}
use Rattle.msl_lists.proofs.WholeEach.{each_is, each_as, each_pair}
use Rattle.msl_lists.proofs.WholeFolds.{fold_up_to}
use Rattle.msl_lists.proofs.WholeMoves.{long_by, at_by, cell_by, divisible, whole_blocks, moved_to, moved_from, moved_below, moved_back}
use Rattle.msl_lists.proofs.WholeRotations.{rotation_moves}
use Rattle.msl_lists.proofs.WholeTargets.{targets_found}
use Rattle.msl_lists.proofs.WholeUnique.{one_each, one_pair, one_moved, one_moved_blocks, one_repeated, one_rotated_rows, one_rotated_cols, one_transposed}

answer_is : (P : List ℤ → Type 0) (r : Result (List ℤ) Fault) (m : List ℤ) → MatchResult r P (λ e. ⊥) → ((x : List ℤ) → P x → x ≡ m) → r ≡ Ok m
answer_is P (Ok x) m h one = ap Ok (one x h)
answer_is P (Err e) m h one = absurd h

pub each_answer : (n : ℕ) (f : ℕ → Result ℤ Fault) (r : Result (List ℤ) Fault) → IsEach n f r → each n f ≡ r
each_answer n f r h = one_each n f (each n f) r (each_is n f) h

pub pair_answer : (stage : ℕ) (a c : List ℤ) (f : ℕ → Result ℤ Fault) (r : Result (List ℤ) Fault) → IsEachPair stage a c f r → if_same_length stage a c (each (length a) f) ≡ r
pair_answer stage a c f r h = one_pair stage a c f (if_same_length stage a c (each (length a) f)) r (each_pair stage a c f) h

-- ---- from the first element to the last

pub fold_answer : (op : Op) (stage : ℕ) (a : List ℤ) (c : ℕ → ℤ) → Combines op a c → fold_all op stage a ≡ settle stage (c (length a))
fold_answer op stage a c h = ap (settle stage) (ap (fold_of op.kind op.modulus) (sym (take-length a)) ∙ fold_up_to op a c h (length a) (omega arith))

pub scan_each : (op : Op) (stage : ℕ) (a : List ℤ) (c : ℕ → ℤ) → Combines op a c → IsEach (length a) (λ i. settle stage (c (i + 1))) (scan_all op stage a)
scan_each op stage a c h = each_as (length a) (λ i. fold_all op stage (take (i + 1) a)) (λ i. settle stage (c (i + 1))) (λ i lt. ap (settle stage) (sym (fold_up_to op a c h (i + 1) (omega arith))))

pub scan_answer : (op : Op) (stage : ℕ) (a : List ℤ) (c : ℕ → ℤ) (r : Result (List ℤ) Fault) → Combines op a c → IsEach (length a) (λ i. settle stage (c (i + 1))) r → scan_all op stage a ≡ r
scan_answer op stage a c r h is = one_each (length a) (λ i. settle stage (c (i + 1))) (scan_all op stage a) r (scan_each op stage a c h) is

-- ---- elements

abbrev pub permuted : List ℤ → List ℤ → List ℤ
permuted a targets = list_by (length a) (λ i. at a (source targets i))

elements_moved : (u : Function) (a targets : List ℤ) → AreValues u (length a) targets → IsBijection u (length a) → MovesElements u a (permuted a targets)
elements_moved u a targets are b = record {
  long = long_by (length a) (λ i. at a (source targets i));
  lands = λ i to lt e.
      let s = source_of u (length a) targets are b i to lt e in
      at_by (length a) (λ i. at a (source targets i)) to s.0 ∙ ap (at a) s.1;
}

pub permute_moves : (u : Function) (stage : ℕ) (a : List ℤ) → IsBijection u (length a) → MatchResult (permute u stage a) (λ moved. MovesElements u a moved) (λ e. ⊥)
permute_moves u stage a b =
    let f = targets_found u stage (length a) b in
    let P : Result (List ℤ) Fault → Type 0 = λ r. MatchResult (r >>= λ targets. Ok (permuted a targets)) (λ moved. MovesElements u a moved) (λ e. ⊥) in
    subst P (sym f.2) (elements_moved u a f.0 f.1 b)

pub permute_answer : (u : Function) (stage : ℕ) (a moved : List ℤ) → IsBijection u (length a) → MovesElements u a moved → permute u stage a ≡ Ok moved
permute_answer u stage a moved b h = answer_is (MovesElements u a) (permute u stage a) moved (permute_moves u stage a b) (λ x g. one_moved u a x moved b g h)

-- ---- blocks

abbrev pub permuted_blocks : ℕ → List ℤ → List ℤ → List ℤ
permuted_blocks k a targets = list_by (length a) (λ i. at a (source targets (i / k) * k + i % k))

abbrev pub then_permuted : ℕ → List ℤ → Result (List ℤ) Fault → Result (List ℤ) Fault
then_permuted b a r = r >>= λ targets. Ok (permuted_blocks (length a / b) a targets)

blocks_moved : (u : Function) (b k : ℕ) (a targets : List ℤ) → b * k ≡ length a → AreValues u b targets → IsBijection u b → MovesBlocks u b k a (permuted_blocks k a targets)
blocks_moved u b k a targets whole are bijection = record {
  long = long_by (length a) (λ i. at a (source targets (i / k) * k + i % k));
  lands = λ j t to p q e.
      let s = source_of u b targets are bijection j to p e in
      let inside : to * k + t < length a = omega (arith, mul-add-lt to k t b s.0 q, whole) in
      at_by (length a) (λ i. at a (source targets (i / k) * k + i % k)) (to * k + t) inside
      ∙ ap (λ x. at a (source targets x * k + (to * k + t) % k)) (div-mul-add to k t q)
      ∙ ap (λ x. at a (source targets to * k + x)) (mod-mul-add to k t q)
      ∙ ap (λ x. at a (x * k + t)) s.1;
}

pub permute_partition_moves : (u : Function) (stage b : ℕ) (a : List ℤ) → length a % b ≡ 0 → IsBijection u b → MatchResult (permute_partition u stage b a) (λ moved. MovesBlocks u b (length a / b) a moved) (λ e. ⊥)
permute_partition_moves u stage b a e bijection =
    let f = targets_found u stage b bijection in
    let P : Result (List ℤ) Fault → Type 0 = λ r. MatchResult r (λ moved. MovesBlocks u b (length a / b) a moved) (λ e. ⊥) in
    let is : permute_partition u stage b a ≡ Ok (permuted_blocks (length a / b) a f.0) = divisible stage (length a) b (then_permuted b a (targets_of u stage b)) e ∙ ap (then_permuted b a) f.2 in
    subst P (sym is) (blocks_moved u b (length a / b) a f.0 (whole_blocks (length a) b e) f.1 bijection)

pub permute_partition_answer : (u : Function) (stage b : ℕ) (a moved : List ℤ) → length a % b ≡ 0 → IsBijection u b → MovesBlocks u b (length a / b) a moved → permute_partition u stage b a ≡ Ok moved
permute_partition_answer u stage b a moved e bijection h =
    let k = length a / b in
    answer_is (MovesBlocks u b k a) (permute_partition u stage b a) moved (permute_partition_moves u stage b a e bijection) (λ x g. one_moved_blocks u b k a x moved bijection (sym (whole_blocks (length a) b e)) g h)

abbrev pub repeated : ℕ → ℕ → List ℤ → List ℤ
repeated j b a = list_by (length a) (λ i. at a (j * (length a / b) + i % (length a / b)))

pub broadcast_moves : (j stage b : ℕ) (a : List ℤ) → length a % b ≡ 0 → MatchResult (broadcast_partition j stage b a) (λ repeated. RepeatsBlock j (length a / b) a repeated) (λ e. ⊥)
broadcast_moves j stage b a e =
    let f = λ (i : ℕ). at a (j * (length a / b) + i % (length a / b)) in
    let P : Result (List ℤ) Fault → Type 0 = λ r. MatchResult r (λ repeated. RepeatsBlock j (length a / b) a repeated) (λ e. ⊥) in
    subst P (sym (divisible stage (length a) b (Ok (repeated j b a)) e)) (record { long = long_by (length a) f; lands = at_by (length a) f })

pub broadcast_answer : (j stage b : ℕ) (a same : List ℤ) → length a % b ≡ 0 → RepeatsBlock j (length a / b) a same → broadcast_partition j stage b a ≡ Ok same
broadcast_answer j stage b a same e h =
    let k = length a / b in
    answer_is (RepeatsBlock j k a) (broadcast_partition j stage b a) same (broadcast_moves j stage b a e) (λ x g. one_repeated j k a x same g h)

-- ---- matrices

-- what stands at each row and column, where the blocks of each block row move by these numbers
abbrev in_rows : Extent → List ℤ → List ℤ → ℕ → ℕ → ℤ
in_rows m a by r c = cell m.cols a r (moved_from m.cols m.grid_cols (at by (block_of m.rows m.grid_rows r)) c)

abbrev pub rows_turned : Extent → List ℤ → List ℤ → List ℤ
rows_turned m a by = matrix_by m.rows m.cols (in_rows m a by)

rows_moved : (u : Function) (m : Extent) (a by : List ℤ) → m.cols % m.grid_cols ≡ 0 → AreValues u m.grid_rows by → RotatesRows u m (m.cols / m.grid_cols) a (rows_turned m a by)
rows_moved u m a by whole are = record {
  long = long_by (m.rows * m.cols) (λ i. in_rows m a by (i / m.cols) (i % m.cols));
  lands = λ r c s z p q t block e.
      let to = moved_to m.cols m.grid_cols z c in
      cell_by m.rows m.cols (in_rows m a by) r to p (moved_below m.cols m.grid_cols c z whole q)
      ∙ ap (λ b. cell m.cols a r (moved_from m.cols m.grid_cols (at by b) to)) (block_is m.rows m.grid_rows s r t block)
      ∙ ap (λ y. cell m.cols a r (moved_from m.cols m.grid_cols y to)) (same_value u m.grid_rows by are s z t e)
      ∙ ap (cell m.cols a r) (moved_back m.cols m.grid_cols c z whole q);
}

pub rotate_rows_moves : (u : Function) (stage : ℕ) (m : Extent) (a : List ℤ) → m.cols % m.grid_cols ≡ 0 → AnswersBelow u m.grid_rows → MatchResult (rotate_rows u stage m a) (λ moved. RotatesRows u m (m.cols / m.grid_cols) a moved) (λ e. ⊥)
rotate_rows_moves u stage m a whole all =
    rotation_moves u stage m.cols m.grid_cols m.grid_rows (rows_turned m a) (RotatesRows u m (m.cols / m.grid_cols) a) whole all (λ by are. rows_moved u m a by whole are)

pub rotate_rows_answer : (u : Function) (stage : ℕ) (m : Extent) (a moved : List ℤ) → 1 ≤ m.grid_rows → m.cols % m.grid_cols ≡ 0 → AnswersBelow u m.grid_rows → RotatesRows u m (m.cols / m.grid_cols) a moved → rotate_rows u stage m a ≡ Ok moved
rotate_rows_answer u stage m a moved some whole all h =
    answer_is (RotatesRows u m (m.cols / m.grid_cols) a) (rotate_rows u stage m a) moved (rotate_rows_moves u stage m a whole all) (λ x g. one_rotated_rows u m a x moved some whole all g h)

-- the same of each block column
abbrev in_cols : Extent → List ℤ → List ℤ → ℕ → ℕ → ℤ
in_cols m a by r c = cell m.cols a (moved_from m.rows m.grid_rows (at by (block_of m.cols m.grid_cols c)) r) c

abbrev pub cols_turned : Extent → List ℤ → List ℤ → List ℤ
cols_turned m a by = matrix_by m.rows m.cols (in_cols m a by)

cols_moved : (u : Function) (m : Extent) (a by : List ℤ) → m.rows % m.grid_rows ≡ 0 → AreValues u m.grid_cols by → RotatesCols u m (m.rows / m.grid_rows) a (cols_turned m a by)
cols_moved u m a by whole are = record {
  long = long_by (m.rows * m.cols) (λ i. in_cols m a by (i / m.cols) (i % m.cols));
  lands = λ r c t z p q lt block e.
      let to = moved_to m.rows m.grid_rows z r in
      cell_by m.rows m.cols (in_cols m a by) to c (moved_below m.rows m.grid_rows r z whole p) q
      ∙ ap (λ b. cell m.cols a (moved_from m.rows m.grid_rows (at by b) to) c) (block_is m.cols m.grid_cols t c lt block)
      ∙ ap (λ y. cell m.cols a (moved_from m.rows m.grid_rows y to) c) (same_value u m.grid_cols by are t z lt e)
      ∙ ap (λ x. cell m.cols a x c) (moved_back m.rows m.grid_rows r z whole p);
}

pub rotate_cols_moves : (u : Function) (stage : ℕ) (m : Extent) (a : List ℤ) → m.rows % m.grid_rows ≡ 0 → AnswersBelow u m.grid_cols → MatchResult (rotate_cols u stage m a) (λ moved. RotatesCols u m (m.rows / m.grid_rows) a moved) (λ e. ⊥)
rotate_cols_moves u stage m a whole all =
    rotation_moves u stage m.rows m.grid_rows m.grid_cols (cols_turned m a) (RotatesCols u m (m.rows / m.grid_rows) a) whole all (λ by are. cols_moved u m a by whole are)

pub rotate_cols_answer : (u : Function) (stage : ℕ) (m : Extent) (a moved : List ℤ) → 1 ≤ m.grid_cols → m.rows % m.grid_rows ≡ 0 → AnswersBelow u m.grid_cols → RotatesCols u m (m.rows / m.grid_rows) a moved → rotate_cols u stage m a ≡ Ok moved
rotate_cols_answer u stage m a moved some whole all h =
    answer_is (RotatesCols u m (m.rows / m.grid_rows) a) (rotate_cols u stage m a) moved (rotate_cols_moves u stage m a whole all) (λ x g. one_rotated_cols u m a x moved some whole all g h)

pub transpose_moves : (m : Extent) (a : List ℤ) → Transposes m a (transpose m a)
transpose_moves m a = record {
  long = long_by (m.cols * m.rows) _;
  lands = λ r c p q. cell_by m.cols m.rows (λ r c. cell m.cols a c r) c r q p;
}

pub transpose_answer : (m : Extent) (a turned : List ℤ) → Transposes m a turned → transpose m a ≡ turned
transpose_answer m a turned h = one_transposed m a (transpose m a) turned (transpose_moves m a) h
