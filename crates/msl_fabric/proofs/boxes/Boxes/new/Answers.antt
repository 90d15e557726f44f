use Rattle.std.proofs.Common.{[], ap, length, arith}
use Rattle.std.proofs.lemmas.List.{length_push}
use Rattle.msl_fabric.proofs.Grids.{alike-more}
use Rattle.msl_fabric.proofs.boxes.Boxes.new.Goals as goal

pub loop-i-preserved : goal.loop-i-preserved
loop-i-preserved c =
    let inv = c.loop-i.invariant in (
      omega (arith, inv.0, ap length c.push_reserved.ensures.items, length_push c.loop-i.boxes.items c.new.result),
      omega (arith, c.loop-i-test.true),
      omega (arith, inv.2, c.push_reserved.ensures.capacity),
      alike-more c.loop-i.boxes.items c.push_reserved.new.self.items c.new.result c.push_reserved.ensures.items [] c.loop-i._i inv.3 c.new.ensures,
    )
