use Rattle.std.proofs.Common.{◌≡◌, ◌<◌, ◌+◌, ◌-◌, length, take, drop, ap₂, sym, subst, ◌∙◌, arith}
use Rattle.msl_array.specs.Arrays.{share}
use Rattle.msl_array.proofs.Shares.{AreFirst, share_within, first_more}
use Rattle.msl_array.proofs.parts.laid.Goals as goal

pub offset_bounds-all-from : goal.offset_bounds-all-from
offset_bounds-all-from c =
    let within = share_within (length c.known_short-all.result.now) c.args.blocks c.args.members c.loop-m.m c.requires.some c.requires.some_members c.loop-m.invariant.upto in
    omega (arith, within, c.share-from.ensures.share, c.known_short-all.ensures.few)

pub loop-m-preserved : goal.loop-m-preserved
loop-m-preserved c =
    let xs = c.known_short-all.result.now in
    let b = c.args.blocks in
    let p = c.args.members in
    let m = c.loop-m.m in
    let v = c.in_ok-from_slice.field-0 in
    let h = c.loop-m.invariant in
    let lt : m < p = omega (arith, c.loop-m-test.true) in
    let read : v.items ≡ take (c.share-to.result - c.share-from.result) (drop c.share-from.result xs) = c.in_ok-from_slice.ensures.items in
    let is : v.items ≡ take (share (length xs) b p (m + 1) - share (length xs) b p m) (drop (share (length xs) b p m) xs) =
    read ∙ ap₂ (λ from to. take (to - from) (drop from xs)) c.share-from.ensures.share c.share-to.ensures.share in
    record {
      first = subst (AreFirst xs b p (m + 1)) (sym c.push_reserved.ensures.items) (first_more xs b p c.requires.some c.requires.some_members m c.loop-m.parts.items v lt h.first is);
      upto = omega (arith, lt);
      room = omega (arith, h.room, c.push_reserved.ensures.capacity);
    }
