use Rattle.std.proofs.Common.{[], Ok, Err}
use Rattle.msl_tree.proofs.Combining.{root_value}
use Rattle.msl_tree.proofs.combine.root_value.Goals as goal

pub returns-in-Ok : goal.returns-in-Ok
returns-in-Ok c =
    root_value c.args.funs.now c.new-calls.result c.args.d.now c.args.stage c.args.splits.now c.args.solved.now c.root.result [] (Ok c.in-Ok.value) c.new-calls.ensures c.root.ensures
    c.in-Ok.ensures.value

pub returns : goal.returns
returns c =
    root_value c.args.funs.now c.new-calls.result c.args.d.now c.args.stage c.args.splits.now c.args.solved.now c.root.result [] (Err c.in-Err.fault) c.new-calls.ensures c.root.ensures
    c.in-Err.ensures.value
