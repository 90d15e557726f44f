use Rattle.std.proofs.Common.{◌≤◌, sym, subst, length, vec_capacity}
use Rattle.msl_lists.specs.Whole.{function_of}
use Rattle.msl_local.specs.Cells.{cells}
use Rattle.msl_local.specs.Folds.{HandComes}
use Rattle.msl_local.specs.Outcomes.{ComesLike}
use Rattle.msl_local.specs.Places.{parts_of}
use Rattle.msl_local.proofs.Cells.{whole_is}
use Rattle.msl_local.proofs.Together.{by_hands, together, room_for}
use Rattle.msl_fabric.proofs.joined.outcomes_beside.Goals as goal

pub joined-requires-clause-room : goal.joined-requires-clause-room
joined-requires-clause-room g c =
    let w = c.args.work.now in
    let a = parts_of w.inputs in
    let n : length a ≤ vec_capacity c.in_ok-all.all = subst (λ xs. length xs ≤ vec_capacity c.in_ok-all.all) c.parts.ensures c.in_ok-all.ensures.room in
    room_for a (cells w) c.beside-got.result (vec_capacity c.in_ok-all.all) n
    (by_hands (cells w) a c.args.hands c.requires.some (λ h q. HandComes a (cells w) c.args.hands h q) c.beside-got.result c.beside-got.ensures.led (λ h q lt p. p))

pub returns : goal.returns
returns g c =
    let w = c.args.work.now in
    let a = parts_of w.inputs in
    subst (λ want. ComesLike a want c.joined.result) (sym (whole_is (function_of w.u) w.stage w.inputs w.right.alike))
    (together a (cells w) c.beside-got.result c.joined.result
    (by_hands (cells w) a c.args.hands c.requires.some (λ h q. HandComes a (cells w) c.args.hands h q) c.beside-got.result c.beside-got.ensures.led (λ h q lt p. p)) c.joined.ensures)
