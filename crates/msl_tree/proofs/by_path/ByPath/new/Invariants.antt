use Rattle.msl_tree.proofs.Found.{IsIndexed}
use Rattle.msl_tree.proofs.by_path.ByPath.new.Given as goal

-- the entries that are left stand before those that are found
abbrev pub invariant-loop-entry : goal.invariant-loop-entry
invariant-loop-entry l = IsIndexed l.by_path l.entry-iterator.iter.rest.now l.solved
