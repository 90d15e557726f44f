use Rattle.msl_lists.proofs.WholeAnswers.{rows_turned, rotate_rows_moves, rotate_rows_answer}
use Rattle.msl_lists.proofs.WholeRotations.{rows_by_blocks, rotation_ragged, rotation_fault}
use Rattle.msl_lists.proofs.WholeUnique.{one_rotated_rows}
use Rattle.msl_lists.proofs.laws.rotates_rows.Goals as goal

pub returns : goal.returns
returns x = record {
  moves = rotate_rows_moves;
  ragged = λ u stage m a. rotation_ragged u stage m.cols m.grid_cols m.grid_rows (rows_turned m a);
  fault = λ u stage m a. rotation_fault u stage m.cols m.grid_cols m.grid_rows (rows_turned m a);
  one = one_rotated_rows;
  answer = rotate_rows_answer;
  blocks = rows_by_blocks;
}
