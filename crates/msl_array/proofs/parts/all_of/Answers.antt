use Rattle.std.proofs.Common.{◌+◌, ◌++◌, ℤ, List, length, ap, ap₂, sym, ◌∙◌, arith}
use Rattle.msl_local.proofs.Lists.{start_within}
use Rattle.msl_array.proofs.Shares.{flat_read, long_read}
use Rattle.msl_array.proofs.parts.all_of.Goals as goal

pub put_all-requires : goal.put_all-requires
put_all-requires c =
    let parts = c.args.parts.now in
    let i = c.loop-part.part-index in
    let next = long_read parts i c.part-item.result c.loop-part-test.true c.part-item.is in
    omega (arith, next, start_within parts (i + 1), c.loop-part.invariant.room, ap length c.loop-part.invariant.numbers, ap length c.as_slice.ensures.value)

pub loop-part-preserved : goal.loop-part-preserved
loop-part-preserved c =
    let parts = c.args.parts.now in
    let i = c.loop-part.part-index in
    let inv = c.loop-part.invariant in
    let next = flat_read parts i c.part-item.result c.loop-part-test.true c.part-item.is in
    let long = long_read parts i c.part-item.result c.loop-part-test.true c.part-item.is in
    let numbers = c.put_all.ensures.numbers ∙ ap₂ (λ (x y : List ℤ). x ++ y) inv.numbers c.as_slice.ensures.value ∙ sym next in
    record {
      numbers = numbers;
      room = omega (arith, long, inv.room, ap length inv.numbers, ap length numbers, c.put_all.ensures.room, ap length c.as_slice.ensures.value);
    }
