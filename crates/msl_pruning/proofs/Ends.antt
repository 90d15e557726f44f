-- What is left at the end is an answer.
use Rattle.std.proofs.Common.{◌≡◌, ℕ, List, length, Ok, Err, sym, subst}
use Rattle.std.proofs.lemmas.Bool.{eq-eqb}
use Rattle.msl_base.specs.Streams.{Record, Outcome}
use Rattle.msl_base.specs.declared.answer.Answer.{Answer}
use Rattle.msl_base.specs.declared.answer.Answer.TheVariants as answer
use Rattle.msl_fun.specs.declared.funs.Fun.{Fun}
use Rattle.msl_fun.specs.Meaning.{params_of}
use Rattle.msl_pool.specs.Working.{IsWhole}
use Rattle.msl_program.specs.Searches.{AnswerBy, BestOf, IsAnswer}
use Rattle.msl_program.specs.declared.script.BnbSpec.{BnbSpec}
use Rattle.msl_pruning.specs.Pruned.{Best, outcome_of, HasPruned}
use Rattle.msl_pruning.proofs.Prunes.{prunes}
use Rattle.msl_stage.specs.Answers.{MayAnswer}

pub may_be : (P Q : Outcome → Type 0) → ((r : Outcome) → P r → Q r) → (a : Answer) → MayAnswer P a → MayAnswer Q a
may_be P Q h (answer.Rec r) p = h (Ok r.numbers) p
may_be P Q h (answer.Fault f) p = h (Err f) p
may_be P Q h answer.NoMemory p = p

module _ (funs : List Fun) (b : BnbSpec) (stage : ℕ) (root : Record) where
  -- the best so far where nothing is left
  pub whole : (best : Best) → IsWhole (HasPruned funs b stage root best) → (a : Answer) → MayAnswer (λ r. r ≡ outcome_of best) a → MayAnswer (IsAnswer funs b stage root) a
  whole best h a m = may_be (λ (r : Outcome). r ≡ outcome_of best) (IsAnswer funs b stage root) (λ r is. subst (IsAnswer funs b stage root) (sym is) (prunes funs b stage root h.0 h.1 h.2 best h.3)) a m

  pub of_width : length root ≡ params_of funs b.bound → (a : Answer) → MayAnswer (IsAnswer funs b stage root) a → MayAnswer (BestOf funs b stage root) a
  of_width wide a m = subst (λ t. MayAnswer (AnswerBy funs b stage t root) a) (sym (eq-eqb (length root) (params_of funs b.bound) wide)) m
