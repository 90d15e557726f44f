use Rattle.msl_basics_rows.proofs.Moduli.{one_fits}
use Rattle.msl_basics_rows.proofs.operators.lists_fold.Goals as goal

pub invariant_of-folds-clause-most : goal.invariant_of-folds-clause-most
invariant_of-folds-clause-most g c = one_fits _
