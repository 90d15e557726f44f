use Rattle.msl_program.proofs.BranchLaws.{reaches_children, has_numbers_along, is_shallow, has_few_children}
use Rattle.msl_program.proofs.run_laws.trees_have_nodes.Goals as goal

pub returns : goal.returns
returns c = record { step = reaches_children; numbers = has_numbers_along; depth = is_shallow; children = has_few_children }
