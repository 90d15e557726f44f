use Rattle.std.proofs.Common.{arith}
use Rattle.std.proofs.lemmas.List.FromFn.{map-range_with_len_more}
use Rattle.msl_matrix.specs.Grids.{extent_of}
use Rattle.msl_matrix.specs.Rotations.{goes_to}
use Rattle.msl_matrix.proofs.rotations.places.Goals as goal

pub loop-i-preserved : goal.loop-i-preserved
loop-i-preserved c =
    let i = c.loop-i.i in
    let f = goes_to c.args.axis (extent_of c.args.shape) c.args.by.now in
    let more = map-range_with_len_more f 0 i i (omega arith) in
    record { to = cc (more, c.push_reserved.ensures.items, c.loop-i.invariant.to, c.goes_to.ensures.goes); room = omega (arith, c.push_reserved.ensures.len, c.push_reserved.ensures.capacity, c.loop-i.invariant.room, c.loop-i-test.true) }
