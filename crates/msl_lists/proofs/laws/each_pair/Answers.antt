use Rattle.std.proofs.Common.{pos, [], ◌∷◌, ◌/◌, ◌%◌}
use Rattle.msl_lists.specs.Whole.{at_stage, at}
use Rattle.msl_lists.proofs.WholeEach.{each_pair}
use Rattle.msl_lists.proofs.laws.each_pair.Goals as goal

pub returns : goal.returns
returns w = record {
  zip = λ u stage a c. each_pair stage a c (λ i. at_stage stage (u (at a i ∷ at c i ∷ [])));
  index = λ u stage a c. each_pair stage a c (λ i. at_stage stage (u (pos i ∷ at a i ∷ at c i ∷ [])));
  cells = λ u stage cols a c. each_pair stage a c (λ i. at_stage stage (u (pos (i / cols) ∷ pos (i % cols) ∷ at a i ∷ at c i ∷ [])));
}
