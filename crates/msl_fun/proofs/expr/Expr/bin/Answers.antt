use Rattle.std.proofs.Common.{ap, ◌∙◌}
use Rattle.msl_fun.specs.declared.expr.Expr.{Expr}
use Rattle.msl_fun.specs.declared.expr.Expr.TheVariants.{Bin}
use Rattle.msl_fun.proofs.Shapes.{binary_is}
use Rattle.msl_fun.proofs.expr.Expr.bin.Goals as goal

pub returns : goal.returns
returns c =
    ap (λ (a : Expr). Bin c.args.op a c.in_ok-new-2.field-0) c.in_ok-new.ensures
    ∙ ap (λ (b : Expr). Bin c.args.op c.args.a b) c.in_ok-new-2.ensures
    ∙ binary_is c.args.op c.args.a c.args.b
