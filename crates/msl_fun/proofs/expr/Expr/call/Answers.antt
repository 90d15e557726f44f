use Rattle.msl_fun.proofs.Shapes.{calling_is}
use Rattle.msl_fun.proofs.expr.Expr.call.Goals as goal

pub returns : goal.returns
returns c = calling_is c.args.f c.args.args
