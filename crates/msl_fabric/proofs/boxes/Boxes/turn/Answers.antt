use Rattle.std.proofs.Common.{◌≡◌, ◌<◌, ◌+◌, ◌*◌, List, length, rules, arith, ap, ◌∙◌}
use Rattle.std.proofs.lemmas.List.{with_items_is}
use Rattle.std.proofs.lemmas.Nat.{mul-add-lt}
use Rattle.std.specs.List.{swap}
use Rattle.msl_base.specs.Records.{Kept}
use Rattle.msl_fabric.specs.Grids.{Grid, grid, records}
use Rattle.msl_fabric.proofs.Grids.{turn, records-swap}
use Rattle.msl_fabric.proofs.boxes.Boxes.turn.Goals as goal

pub returns : goal.returns
returns c =
    let self = c.self.inside in
    let there = c.args.i * self.n + c.args.j in
    let back = c.args.j * self.n + c.args.i in
    let side : self.n ≡ c.args.self.now.n = ap (λ (b : Grid). b.n) c.self.view_is in
    let p : c.args.i < self.n = omega arith in
    let q : c.args.j < self.n = omega arith in
    let low : there < length self.boxes.items = omega (arith, mul-add-lt c.args.i self.n c.args.j self.n p q, c.self.invariant) in
    let high : back < length self.boxes.items = omega (arith, mul-add-lt c.args.j self.n c.args.i self.n q p, c.self.invariant) in
    ap (λ (xs : List Kept). grid self.n (records xs)) (
    with_items_is self.boxes c.swap.new.self (search rules) ∙ c.swap.ensures.after ∙ ap (λ (xs : List Kept). swap xs there back) c.as_mut_slice.ensures.value
    )
    ∙ ap (grid self.n) (records-swap self.boxes.items there back low high)
    ∙ ap (λ (b : Grid). turn b c.args.i c.args.j) c.self.view_is
