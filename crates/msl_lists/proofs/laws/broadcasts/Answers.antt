use Rattle.std.proofs.Common.{length, Ok}
use Rattle.msl_lists.proofs.WholeAnswers.{repeated, broadcast_moves, broadcast_answer}
use Rattle.msl_lists.proofs.WholeMoves.{ragged, ragged_only}
use Rattle.msl_lists.proofs.WholeUnique.{one_repeated}
use Rattle.msl_lists.proofs.laws.broadcasts.Goals as goal

pub returns : goal.returns
returns c = record {
  moves = broadcast_moves;
  ragged = λ j stage b a. (ragged_only stage (length a) b (Ok (repeated j b a)) (λ e. absurd (cc)), ragged stage (length a) b (Ok (repeated j b a)));
  one = one_repeated;
  answer = broadcast_answer;
}
