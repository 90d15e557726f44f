use Rattle.std.proofs.Common.{◌+◌, ◌*◌, [], slice_set, ap, ◌∙◌}
use Rattle.std.proofs.lemmas.List.{map-set}
use Rattle.msl_base.specs.Streams.{Record}
use Rattle.msl_fabric.specs.Grids.{Grid, grid, with_box, records}
use Rattle.msl_fabric.proofs.Grids.{numbers}
use Rattle.msl_fabric.proofs.boxes.Boxes.take.Goals as goal

pub returns-clause-rest : goal.returns-clause-rest
returns-clause-rest c =
    let self = c.self.inside in
    let place = c.args.i * self.n + c.args.j in
    ap (grid self.n) (map-set numbers self.boxes.items place c.replace.new.dest)
    ∙ ap (λ (x : Record). grid self.n (slice_set (records self.boxes.items) place x)) (ap numbers c.replace.ensures.after ∙ c.new.ensures)
    ∙ ap (λ (b : Grid). with_box b c.args.i c.args.j []) c.self.view_is
