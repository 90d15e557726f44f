use Rattle.std.proofs.Common.{◌+◌, ◌*◌, ap, ◌∙◌}
use Rattle.std.proofs.lemmas.List.{map-set}
use Rattle.msl_fabric.specs.Grids.{Grid, grid, with_box}
use Rattle.msl_fabric.proofs.Grids.{numbers}
use Rattle.msl_fabric.proofs.boxes.Boxes.put.Goals as goal

pub returns : goal.returns
returns c =
    let self = c.self.inside in
    ap (grid self.n) (map-set numbers self.boxes.items (c.args.i * self.n + c.args.j) c.args.x)
    ∙ ap (λ (b : Grid). with_box b c.args.i c.args.j c.args.x.numbers) c.self.view_is
