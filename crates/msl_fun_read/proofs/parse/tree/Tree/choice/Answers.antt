use Rattle.std.proofs.Common.{refl}
use Rattle.msl_fun.specs.Shapes.{choice}
use Rattle.msl_fun_read.proofs.Trees.{three_deep}
use Rattle.msl_fun_read.proofs.parse.tree.Tree.choice.Goals as goal

pub if_shallow-requires : goal.if_shallow-requires
if_shallow-requires c =
    three_deep choice (λ x y z. refl) c.c.inside.expr c.a.inside.expr c.b.inside.expr c.c.inside.deep c.a.inside.deep c.b.inside.deep c.max.result c.max-deep.result _ c.zip.result c.in_ok-choice.field-0
    c.c.invariant.0 c.a.invariant.0 c.b.invariant.0 c.zip.ensures c.in-Some.ensures c.max.ensures c.max-deep.ensures c.in_ok-choice.ensures
