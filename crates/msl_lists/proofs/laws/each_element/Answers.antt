use Rattle.std.proofs.Common.{pos, [], ◌∷◌, length, ◌/◌, ◌%◌}
use Rattle.msl_lists.specs.Whole.{at_stage, at}
use Rattle.msl_lists.proofs.WholeEach.{each_is}
use Rattle.msl_lists.proofs.laws.each_element.Goals as goal

pub returns : goal.returns
returns c = record {
  map = λ u stage a. each_is (length a) (λ i. at_stage stage (u (at a i ∷ [])));
  index = λ u stage a. each_is (length a) (λ i. at_stage stage (u (pos i ∷ at a i ∷ [])));
  cells = λ u stage cols a. each_is (length a) (λ i. at_stage stage (u (pos (i / cols) ∷ pos (i % cols) ∷ at a i ∷ [])));
}
