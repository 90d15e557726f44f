use Rattle.msl_lists.proofs.WholeFolds.{passes_whole, passes_fault, passes_parts}
use Rattle.msl_lists.proofs.WholeUnique.{one_passed}
use Rattle.msl_lists.proofs.laws.passes.Goals as goal

pub returns : goal.returns
returns c = record { whole = passes_whole; fault = passes_fault; one = one_passed; parts = passes_parts }
