use Rattle.msl_fun_read.proofs.Trees.{call_depth}
use Rattle.msl_fun_read.proofs.parse.tree.Tree.call.Goals as goal

pub if_shallow-requires : goal.if_shallow-requires
if_shallow-requires c = call_depth c.args.fun c.parts.inside.deep c.parts.inside.exprs c.call.result c.parts.invariant.0 c.call.ensures
