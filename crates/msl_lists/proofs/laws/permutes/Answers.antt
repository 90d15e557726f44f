use Rattle.std.proofs.Common.{◌≡◌, ℕ, ℤ, List, length, Result, Ok, Err, ap, ◌∙◌}
use Rattle.msl_base.specs.declared.fault.Fault.{Fault}
use Rattle.msl_base.specs.declared.fault.Fault.TheVariants.{NotPermutation}
use Rattle.msl_lists.specs.Whole.{Function, at_stage, targets_of, ◌>>=◌}
use Rattle.msl_lists.proofs.WholeTargets.{fault_targets, fault_then, refused_targets, refused_targets_only}
use Rattle.msl_lists.proofs.WholeUnique.{one_moved}
use Rattle.msl_lists.proofs.WholeAnswers.{permuted, permute_moves, permute_answer}
use Rattle.msl_lists.proofs.laws.permutes.Goals as goal

pub returns-clause-moves : goal.returns-clause-moves
returns-clause-moves c = permute_moves

pub returns-clause-fault : goal.returns-clause-fault
returns-clause-fault c = λ u stage a e f.
    let r : targets_of u stage (length a) ≡ at_stage stage (Err e) = fault_targets u stage (length a) e f in
    ap (λ r. r >>= λ targets. Ok (permuted a targets)) r ∙ fault_then stage e (λ targets. Ok (permuted a targets))

refused : (u : Function) (stage : ℕ) (a : List ℤ) (r : Result (List ℤ) Fault) → (r >>= λ targets. Ok (permuted a targets)) ≡ Err (NotPermutation stage) → r ≡ Err (NotPermutation stage)
refused u stage a (Ok ts) e = cc
refused u stage a (Err x) e = e

pub returns-clause-refused : goal.returns-clause-refused
returns-clause-refused c = λ u stage a. (
  λ e. refused_targets_only u stage (length a) (refused u stage a (targets_of u stage (length a)) e),
  λ h. ap (λ r. r >>= λ targets. Ok (permuted a targets)) (refused_targets u stage (length a) h.0 h.1),
)

pub returns-clause-one : goal.returns-clause-one
returns-clause-one c = one_moved

pub returns-clause-answer : goal.returns-clause-answer
returns-clause-answer c = permute_answer
