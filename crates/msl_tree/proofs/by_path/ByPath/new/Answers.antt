use Rattle.msl_tree.proofs.Found.{indexed_more}
use Rattle.msl_tree.proofs.by_path.ByPath.new.Goals as goal

pub loop-entry-preserved : goal.loop-entry-preserved
loop-entry-preserved c =
    let steps = c.as_slice in
    indexed_more c.loop-entry.by_path c.insert.new.self steps.result c.in-Some.entry c.loop-entry.entry-iterator.iter.rest.now c.next.new.self.iter.rest.now c.args.solved.now
    steps.ensures.steps steps.ensures.few c.in_ok-insert.ensures.updates.0 c.in-Some.ensures.steps c.loop-entry.invariant
