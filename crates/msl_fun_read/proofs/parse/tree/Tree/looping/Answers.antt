use Rattle.std.proofs.Common.{refl}
use Rattle.msl_fun.specs.Shapes.{looping}
use Rattle.msl_fun_read.proofs.Trees.{three_deep}
use Rattle.msl_fun_read.proofs.parse.tree.Tree.looping.Goals as goal

pub if_shallow-requires : goal.if_shallow-requires
if_shallow-requires c =
    three_deep looping (λ x y z. refl) c.n.inside.expr c.s.inside.expr c.e.inside.expr c.n.inside.deep c.s.inside.deep c.e.inside.deep c.max.result c.max-deep.result _ c.zip.result c.in_ok-looping.field-0
    c.n.invariant.0 c.s.invariant.0 c.e.invariant.0 c.zip.ensures c.in-Some.ensures c.max.ensures c.max-deep.ensures c.in_ok-looping.ensures
