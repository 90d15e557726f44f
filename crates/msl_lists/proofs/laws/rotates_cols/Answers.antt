use Rattle.msl_lists.proofs.WholeAnswers.{cols_turned, rotate_cols_moves, rotate_cols_answer}
use Rattle.msl_lists.proofs.WholeRotations.{cols_by_blocks, rotation_ragged, rotation_fault}
use Rattle.msl_lists.proofs.WholeUnique.{one_rotated_cols}
use Rattle.msl_lists.proofs.laws.rotates_cols.Goals as goal

pub returns : goal.returns
returns x = record {
  moves = rotate_cols_moves;
  ragged = λ u stage m a. rotation_ragged u stage m.rows m.grid_rows m.grid_cols (cols_turned m a);
  fault = λ u stage m a. rotation_fault u stage m.rows m.grid_rows m.grid_cols (cols_turned m a);
  one = one_rotated_cols;
  answer = rotate_cols_answer;
  blocks = cols_by_blocks;
}
