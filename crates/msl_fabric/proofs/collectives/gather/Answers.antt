use Rattle.std.proofs.Common.{List, ap, ◌∙◌, ◌<◌, ◌≡◌, subst, IfOk, arith}
use Rattle.msl_base.specs.Streams.{Record}
use Rattle.msl_fabric.specs.Grids.{Grid, records}
use Rattle.msl_fabric.proofs.Rows.{row-got}
use Rattle.msl_fabric.proofs.collectives.gather.Goals as goal

pub returns-clause-parts : goal.returns-clause-parts
returns-clause-parts g c =
    let lt : c.args.root < c.put_column.new.boxes.n = omega (arith, c.requires.root, c.put_column.ensures.members, ap (λ (b : Grid). b.n) c.in_ok-out.ensures, c.count.ensures.count) in
    subst (λ (front : List Record). IfOk c.take_row.result (λ all. records all.items ≡ front))
    (row-got c.put_column.new.boxes c.in_ok-got.got c.in_ok-got.ensures c.args.root lt ∙ c.put_column.ensures.parts) c.take_row.ensures
