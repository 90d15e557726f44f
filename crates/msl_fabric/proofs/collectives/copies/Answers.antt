use Rattle.std.proofs.Common.{ap, length, ◌∙◌, arith}
use Rattle.std.proofs.lemmas.List.{length_push}
use Rattle.msl_fabric.proofs.Grids.{alike-more}
use Rattle.msl_fabric.proofs.collectives.copies.Goals as goal

pub loop-i-preserved : goal.loop-i-preserved
loop-i-preserved c =
    let inv = c.loop-i.invariant in (
      omega (arith, inv.0, ap length c.push_reserved.ensures.items, length_push c.loop-i.all.items c.in_ok-of_slice.field-0),
      omega (arith, c.loop-i-test.true),
      omega (arith, inv.2, c.push_reserved.ensures.capacity),
      alike-more c.loop-i.all.items c.push_reserved.new.self.items c.in_ok-of_slice.field-0 c.push_reserved.ensures.items c.args.x.now.numbers c.loop-i._i inv.3 (c.in_ok-of_slice.ensures ∙ c.as_slice.ensures),
    )
