use Rattle.std.proofs.Common.{sym, subst, ap, length}
use Rattle.msl_lists.specs.Whole.{function_of}
use Rattle.msl_local.specs.Cells.{cells}
use Rattle.msl_local.specs.Outcomes.{ComesLike}
use Rattle.msl_local.specs.Places.{parts_of}
use Rattle.msl_local.proofs.Cells.{whole_is}
use Rattle.msl_local.proofs.Together.{by_one}
use Rattle.msl_local.proofs.elements.Elements.all.Goals as goal

pub returns : goal.returns
returns c =
    let w = c.args.self.now in
    let a = parts_of w.inputs in
    subst (λ want. ComesLike a want c.between.result) (sym (whole_is (function_of w.u) w.stage w.inputs w.right.alike))
    (by_one (cells w) a _ c.between.result (ap length c.parts.ensures) c.between.ensures)
