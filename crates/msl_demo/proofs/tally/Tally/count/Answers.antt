use Rattle.std.proofs.Common.{arith, refl}
use Rattle.std.proofs.lemmas.Int.{ints}
use Rattle.msl_demo.proofs.Counting.{bounded, counted}
use Rattle.msl_demo.proofs.tally.Tally.count.Goals as goal

pub overflow_add-self-2 : goal.overflow_add-self-2
overflow_add-self-2 c =
    let h = bounded c.args.self.now c.args.numbers.now c.requires in omega (arith, h.numbers, h.three)

pub sum_of-requires-clause-small : goal.sum_of-requires-clause-small
sum_of-requires-clause-small c = (bounded c.args.self.now c.args.numbers.now c.requires).small

pub overflow_add-self-3 : goal.overflow_add-self-3
overflow_add-self-3 c =
    let h = bounded c.args.self.now c.args.numbers.now c.requires in
    omega (arith, ints, h.low, h.high, h.three, c.sum_of.ensures.low, c.sum_of.ensures.high)

pub returns : goal.returns
returns c outs h =
    let b = bounded c.args.self.now c.args.numbers.now c.requires in
    counted outs c.args.numbers.now c.args.self.now _ refl refl
    (omega (arith, ints, b.low, b.high, b.three, c.sum_of.ensures.low, c.sum_of.ensures.high, c.sum_of.ensures.sum)) h
