-- What is the same of both rotations: lines of blocks turn by the values of a function.
use Rattle.std.proofs.Common.{◌≡◌, ◌≢◌, ◌<◌, ◌+◌, ◌*◌, ◌/◌, arith, ◌%◌, ◌↔◌, ℕ, ℤ, pos, ◌+ℤ◌, List, [], ◌∷◌, length, Result, Ok, Err, MatchResult, sym, subst, ap, ◌∙◌}
use Rattle.std.proofs.lemmas.Nat.{div_below}
use Rattle.msl_base.specs.Blocks.{IsInBlock}
use Rattle.msl_base.specs.declared.fault.Fault.{Fault}
use Rattle.msl_base.specs.declared.fault.Fault.TheVariants.{Ragged}
use Rattle.msl_fun.specs.declared.fault.EvalFault.{EvalFault}
use Rattle.msl_lists.specs.Whole.{Function, Extent, cell, modulo, at_stage, each, if_divisible, ◌>>=◌}
use Rattle.msl_lists.specs.WholeLaws.{AnswersBelow, FaultsFirst, RotatesRows, RotatesCols}
use Rattle.msl_lists.proofs.WholeBijections.{AreValues}
use Rattle.msl_lists.proofs.WholeMoves.{divisible, ragged, ragged_only}
use Rattle.msl_lists.proofs.WholeUnique.{some_cols}
use Rattle.msl_lists.proofs.WholeTargets.{values_found, fault_values, fault_then, not_ragged_values}

-- ---- place i lies in block i / w, at i % w

module _ (n b w i : ℕ) (whole : n ≡ b * w) (lt : i < n) where
  some : 0 < w
  some = some_cols b w i (omega arith)

  block_inside : i / w < b
  block_inside = div_below i w b some (omega arith)

  rest_inside : i % w < w
  rest_inside = let positive = some in omega arith

  place_is : i / w * w + i % w ≡ i
  place_is = omega arith

pub rows_by_blocks : (u : Function) (m : Extent) (w : ℕ) (a moved : List ℤ) → m.cols ≡ m.grid_cols * w → length moved ≡ m.rows * m.cols
    → ((r q t s : ℕ) (by : ℤ) → r < m.rows → q < m.grid_cols → t < w → s < m.grid_rows → IsInBlock m.rows m.grid_rows s r → u (pos s ∷ []) ≡ Ok by → cell m.cols moved r (modulo (pos q +ℤ by) m.grid_cols * w + t) ≡ cell m.cols a r (q * w + t))
    → RotatesRows u m w a moved
rows_by_blocks u m w a moved whole long h = record {
  long = long;
  lands = λ r c s by p q lt block e.
      h r (c / w) (c % w) s by p (block_inside m.cols m.grid_cols w c whole q) (rest_inside m.cols m.grid_cols w c whole q) lt block e
      ∙ ap (cell m.cols a r) (place_is m.cols m.grid_cols w c whole q);
}

pub cols_by_blocks : (u : Function) (m : Extent) (h : ℕ) (a moved : List ℤ) → m.rows ≡ m.grid_rows * h → length moved ≡ m.rows * m.cols
    → ((q t c s : ℕ) (by : ℤ) → q < m.grid_rows → t < h → c < m.cols → s < m.grid_cols → IsInBlock m.cols m.grid_cols s c → u (pos s ∷ []) ≡ Ok by → cell m.cols moved (modulo (pos q +ℤ by) m.grid_rows * h + t) c ≡ cell m.cols a (q * h + t) c)
    → RotatesCols u m h a moved
cols_by_blocks u m h a moved whole long g = record {
  long = long;
  lands = λ r c s by p q lt block e.
      g (r / h) (r % h) c s by (block_inside m.rows m.grid_rows h r whole p) (rest_inside m.rows m.grid_rows h r whole p) q lt block e
      ∙ ap (λ k. cell m.cols a k c) (place_is m.rows m.grid_rows h r whole p);
}

-- ---- what stops a rotation, and its answer

-- a line of n elements in b blocks; there are k lines of blocks, which turn by these numbers
module _ (u : Function) (stage n b k : ℕ) (turned : List ℤ → List ℤ) where
  abbrev numbers : Result (List ℤ) Fault
  numbers = each k (λ s. at_stage stage (u (pos s ∷ [])))

  abbrev then_turned : Result (List ℤ) Fault → Result (List ℤ) Fault
  then_turned r = r >>= λ by. Ok (turned by)

  abbrev pub rotation : Result (List ℤ) Fault
  rotation = if_divisible stage n b (then_turned numbers)

  pub rotation_moves : (P : List ℤ → Type 0) → n % b ≡ 0 → AnswersBelow u k → ((by : List ℤ) → AreValues u k by → P (turned by)) → MatchResult rotation P (λ e. ⊥)
  rotation_moves P whole all h =
      let f = values_found u stage k all in
      let is : rotation ≡ Ok (turned f.0) = divisible stage n b (then_turned numbers) whole ∙ ap then_turned f.2 in
      let Q : Result (List ℤ) Fault → Type 0 = λ r. MatchResult r P (λ e. ⊥) in
      subst Q (sym is) (h f.0 f.1)

  same_ragged : (r : Result (List ℤ) Fault) → r ≢ Err (Ragged stage) → then_turned r ≢ Err (Ragged stage)
  same_ragged (Ok by) other = λ e. absurd (cc)
  same_ragged (Err x) other = other

  pub rotation_ragged : (rotation ≡ Err (Ragged stage)) ↔ (n % b ≢ 0)
  rotation_ragged = (ragged_only stage n b (then_turned numbers) (same_ragged numbers (not_ragged_values u stage k)), ragged stage n b (then_turned numbers))

  pub rotation_fault : (e : EvalFault) → n % b ≡ 0 → FaultsFirst u k e → rotation ≡ at_stage stage (Err e)
  rotation_fault e whole f = divisible stage n b (then_turned numbers) whole ∙ ap then_turned (fault_values u stage k e f) ∙ fault_then stage e (λ by. Ok (turned by))
