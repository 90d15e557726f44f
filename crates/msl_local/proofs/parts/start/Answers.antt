use Rattle.std.proofs.Common.{rules, ◌≡◌, ◌+◌, ap, arith}
use Rattle.msl_local.specs.Parts.{start}
use Rattle.msl_local.proofs.Lists.{size, start_next, start_within}
use Rattle.msl_local.proofs.parts.start.Goals as goal

next : (c : goal.After-len-total) → c.loop-k.total + c.len-total.result ≡ start c.args.parts.now (c.loop-k.k + 1)
next c =
    let v = c.index-parts-k.result in
    let long : c.len-total.result ≡ size v = search rules in
    omega (arith, c.loop-k.invariant, long, ap size c.index-parts-k.is, start_next c.args.parts.now c.loop-k.k v (omega (arith, c.loop-k-test.true, c.requires.within)))

pub overflow_add-total : goal.overflow_add-total
overflow_add-total c = let e = next c in let few = start_within c.args.parts.now (c.loop-k.k + 1) in record { fits = omega (arith, e, few, c.requires.few) }

pub loop-k-preserved : goal.loop-k-preserved
loop-k-preserved c = next c
