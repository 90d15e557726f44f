use Rattle.std.proofs.Common.{List, ap, ◌∙◌, ◌<◌, ◌≡◌, subst, IfOk, arith}
use Rattle.msl_base.specs.Streams.{Record}
use Rattle.msl_fabric.specs.Grids.{Grid, records}
use Rattle.msl_fabric.proofs.Rows.{column-got}
use Rattle.msl_fabric.proofs.collectives.scatter.Goals as goal

pub returns-clause-parts : goal.returns-clause-parts
returns-clause-parts g c =
    let lt : c.args.root < c.put_row.new.boxes.n = omega (arith, c.requires.root, c.put_row.ensures.members, ap (λ (b : Grid). b.n) c.in_ok-out.ensures, c.count.ensures.count) in
    subst (λ (front : List Record). IfOk c.take_column.result (λ all. records all.items ≡ front))
    (column-got c.put_row.new.boxes c.in_ok-got.got c.in_ok-got.ensures c.args.root lt ∙ c.put_row.ensures.parts) c.take_column.ensures
