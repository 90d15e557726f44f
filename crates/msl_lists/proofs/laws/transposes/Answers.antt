use Rattle.msl_lists.proofs.WholeAnswers.{transpose_moves, transpose_answer}
use Rattle.msl_lists.proofs.WholeUnique.{one_transposed}
use Rattle.msl_lists.proofs.laws.transposes.Goals as goal

pub returns : goal.returns
returns c = record { moves = transpose_moves; one = one_transposed; answer = transpose_answer }
