use Rattle.std.proofs.Common.{◌≡◌, ◌≢◌, ◌/◌, ◌%◌, ℕ, ℤ, List, length, Result, Ok, Err, sym, ap, ◌∙◌}
use Rattle.msl_base.specs.declared.fault.Fault.{Fault}
use Rattle.msl_base.specs.declared.fault.Fault.TheVariants.{NotPermutation, Ragged}
use Rattle.msl_lists.specs.Whole.{Function, permute_partition, targets_of}
use Rattle.msl_lists.specs.WholeLaws.{AnswersBelow, IsBijection}
use Rattle.msl_lists.proofs.WholeMoves.{divisible, ragged, ragged_only, divisible_else}
use Rattle.msl_lists.proofs.WholeTargets.{fault_targets, fault_then, refused_targets, refused_targets_only, not_ragged_targets}
use Rattle.msl_lists.proofs.WholeUnique.{one_moved_blocks}
use Rattle.msl_lists.proofs.WholeAnswers.{permuted_blocks, then_permuted, permute_partition_moves, permute_partition_answer}
use Rattle.msl_lists.proofs.laws.permutes_blocks.Goals as goal

pub returns-clause-moves : goal.returns-clause-moves
returns-clause-moves c = permute_partition_moves

same_ragged : (stage b : ℕ) (a : List ℤ) (r : Result (List ℤ) Fault) → r ≢ Err (Ragged stage) → then_permuted b a r ≢ Err (Ragged stage)
same_ragged stage b a (Ok ts) other = λ e. absurd (cc)
same_ragged stage b a (Err x) other = other

pub returns-clause-ragged : goal.returns-clause-ragged
returns-clause-ragged c = λ u stage b a. (
  ragged_only stage (length a) b (then_permuted b a (targets_of u stage b)) (same_ragged stage b a (targets_of u stage b) (not_ragged_targets u stage b)),
  ragged stage (length a) b (then_permuted b a (targets_of u stage b)),
)

pub returns-clause-fault : goal.returns-clause-fault
returns-clause-fault c = λ u stage b a e whole f.
    divisible stage (length a) b (then_permuted b a (targets_of u stage b)) whole
    ∙ ap (then_permuted b a) (fault_targets u stage b e f)
    ∙ fault_then stage e (λ targets. Ok (permuted_blocks (length a / b) a targets))

refused : (stage b : ℕ) (a : List ℤ) (r : Result (List ℤ) Fault) → then_permuted b a r ≡ Err (NotPermutation stage) → r ≡ Err (NotPermutation stage)
refused stage b a (Ok ts) e = cc
refused stage b a (Err x) e = e

other : (stage : ℕ) (r : Result (List ℤ) Fault) → r ≡ Err (NotPermutation stage) → r ≢ Err (Ragged stage)
other stage r e = λ h. absurd (cc)

pub returns-clause-refused : goal.returns-clause-refused
returns-clause-refused c = λ u stage b a. (
  λ e. only u stage b a e (divisible_else stage (length a) b (then_permuted b a (targets_of u stage b)) (other stage (permute_partition u stage b a) e)),
  λ h. divisible stage (length a) b (then_permuted b a (targets_of u stage b)) h.0 ∙ ap (then_permuted b a) (refused_targets u stage b h.1 h.2),
)
  where
    only : (u : Function) (stage b : ℕ) (a : List ℤ) → permute_partition u stage b a ≡ Err (NotPermutation stage) → length a % b ≡ 0 → (length a % b ≡ 0) × AnswersBelow u b × ¬ IsBijection u b
    only u stage b a e whole =
        let h = refused_targets_only u stage b (refused stage b a (targets_of u stage b) (sym (divisible stage (length a) b (then_permuted b a (targets_of u stage b)) whole) ∙ e)) in
        (whole, h.0, h.1)

pub returns-clause-one : goal.returns-clause-one
returns-clause-one c = one_moved_blocks

pub returns-clause-answer : goal.returns-clause-answer
returns-clause-answer c = permute_partition_answer
