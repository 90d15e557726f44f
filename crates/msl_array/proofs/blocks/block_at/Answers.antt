use Rattle.std.proofs.Common.{◌≡◌, ◌+◌, ◌-◌, ◌≤◌, ℤ, List, length, take, drop, sym, ap, ◌∙◌, arith}
use Rattle.msl_lists.specs.Whole.{at}
use Rattle.msl_local.specs.Parts.{start}
use Rattle.msl_array.proofs.Gathered.{within_part, at_block, next_from, past_all}
use Rattle.msl_array.proofs.blocks.block_at.Goals as goal

pub loop-part-init : goal.loop-part-init
loop-part-init c = omega arith

fits : (c : goal.After-deref) → c.loop-part.from + c.args.size ≤ length c.part-item.result.items
fits c =
    within_part c.args.size c.args.parts.now c.requires.begin c.loop-part.part-index c.part-item.result c.loop-part-test.true c.part-item.is c.args.j c.loop-part.from c.loop-part.invariant
    (omega (arith, c.if-from-len.true, c.len.ensures, c.part-item.result.ok.0))

pub slice_bounds-result-end : goal.slice_bounds-result-end
slice_bounds-result-end c = omega (arith, fits c, ap length c.deref.ensures.value)

within : (c : goal.After-result-1) → c.loop-part.from + c.args.size ≤ length c.part-item.result.items
within c =
    within_part c.args.size c.args.parts.now c.requires.begin c.loop-part.part-index c.part-item.result c.loop-part-test.true c.part-item.is c.args.j c.loop-part.from c.loop-part.invariant
    (omega (arith, c.if-from-len.true, c.len.ensures, c.part-item.result.ok.0))

pub returns-then-from-len-clause-block : goal.returns-then-from-len-clause-block
returns-then-from-len-clause-block c = λ t lt.
    ap (λ (xs : List ℤ). at (take (c.loop-part.from + c.args.size - c.loop-part.from) (drop c.loop-part.from xs)) t) c.deref.ensures.value
    ∙ at_block c.args.size c.args.parts.now c.requires.begin c.loop-part.part-index c.part-item.result c.loop-part-test.true c.part-item.is c.args.j c.loop-part.from c.loop-part.invariant t lt (within c)

pub loop-part-preserved : goal.loop-part-preserved
loop-part-preserved c =
    let long : c.len-from.result ≡ length c.part-item.result.items = omega (arith, c.len-from.ensures, c.part-item.result.ok.0) in
    let past : length c.part-item.result.items ≤ c.loop-part.from = omega (arith, c.if-from-len.false, c.len.ensures, c.part-item.result.ok.0) in
    ap (λ n. c.loop-part.from - n + start c.args.parts.now (c.loop-part.part-index + 1)) long
    ∙ next_from c.args.size c.args.parts.now c.requires.begin c.loop-part.part-index c.part-item.result c.loop-part-test.true c.part-item.is c.args.j c.loop-part.from c.loop-part.invariant past

pub returns-clause-long : goal.returns-clause-long
returns-clause-long c = sym (past_all c.args.size c.args.parts.now c.loop-part.part-index c.args.j c.loop-part.from c.loop-part-test.false c.loop-part.invariant c.requires.within)

pub returns-clause-block : goal.returns-clause-block
returns-clause-block c = λ t lt.
    let none = past_all c.args.size c.args.parts.now c.loop-part.part-index c.args.j c.loop-part.from c.loop-part-test.false c.loop-part.invariant c.requires.within in
    absurd (omega (arith, none, lt))
