use Rattle.std.proofs.Common.{◌≡◌, ◌+◌, ◌-◌, ℤ, List, length, take, drop, sym, subst, ap₂, arith}
use Rattle.msl_base.specs.Blocks.{begin}
use Rattle.msl_local.specs.Parts.{flat}
use Rattle.msl_array.specs.Moves.{IsGathered}
use Rattle.msl_array.proofs.Gathered.{AreGathered, begin_whole, blocks_cut, gathered_first, gathered_next, gathered_all, gathered_parts, mine_within}
use Rattle.msl_array.proofs.blocks.gathered.Goals as goal

pub loop-m-init : goal.loop-m-init
loop-m-init c = record {
  first = subst (AreGathered c.args.size c.args.blocks c.args.parts.now c.args.numbers.now 0) (sym c.in_ok-all.ensures.items)
      (gathered_first c.args.size c.args.blocks c.args.parts.now c.args.numbers.now c.requires.parts c.requires.whole c.requires.each);
  room = c.in_ok-all.ensures.capacity;
}

pub gathered_part-requires-clause-begin : goal.gathered_part-requires-clause-begin
gathered_part-requires-clause-begin c = begin_whole c.args.size c.args.blocks c.args.parts.now c.requires.parts c.requires.whole

pub gathered_part-requires-clause-numbers : goal.gathered_part-requires-clause-numbers
gathered_part-requires-clause-numbers c =
    let within = mine_within c.args.size c.args.blocks c.args.parts.now c.args.numbers.now c.requires.parts c.requires.whole c.requires.each (c.loop-m.m + 1) (omega (arith, c.loop-m-test.true)) in
    blocks_cut c.args.size (length (flat c.args.parts.now)) c.args.numbers.now c.bounds-from.result c.bounds-to.result (omega (arith, within, c.bounds-to.ensures, c.requires.each)) c.requires.numbers

pub push_reserved-requires : goal.push_reserved-requires
push_reserved-requires c = omega (arith, c.loop-m.invariant.first.long, c.loop-m.invariant.room, c.loop-m-test.true, c.loop-m.all.ok.0)

pub loop-m-preserved : goal.loop-m-preserved
loop-m-preserved c =
    let b = c.args.blocks in
    let parts = c.args.parts.now in
    let numbers = c.args.numbers.now in
    let v = c.in_ok-gathered_part.field-0 in
    let mine : IsGathered c.args.size (take (begin b (length parts) (c.loop-m.m + 1) - begin b (length parts) c.loop-m.m) (drop (begin b (length parts) c.loop-m.m) numbers)) (flat parts) v.items =
    subst (λ (xs : List ℤ). IsGathered c.args.size xs (flat parts) v.items) (ap₂ (λ from to. take (to - from) (drop from numbers)) c.bounds-from.ensures c.bounds-to.ensures) c.in_ok-gathered_part.ensures in
    record {
      first = subst (AreGathered c.args.size b parts numbers (c.loop-m.m + 1)) (sym c.push_reserved.ensures.items)
          (gathered_next c.args.size b parts numbers c.requires.parts c.requires.whole c.requires.each c.loop-m.m c.loop-m.all.items v c.loop-m-test.true c.loop-m.invariant.first mine);
      room = omega (arith, c.loop-m.invariant.room, c.push_reserved.ensures.capacity);
    }

all_parts : (c : goal.After-loop-m) → AreGathered c.args.size c.args.blocks c.args.parts.now c.args.numbers.now (length c.args.parts.now) c.loop-m.all.items
all_parts c =
    let last : c.loop-m.m ≡ length c.args.parts.now = omega (arith, c.loop-m.auto.m-end, c.loop-m-test.false) in
    subst (λ m. AreGathered c.args.size c.args.blocks c.args.parts.now c.args.numbers.now m c.loop-m.all.items) last c.loop-m.invariant.first

pub returns-clause-parts : goal.returns-clause-parts
returns-clause-parts c = gathered_parts c.args.size c.args.blocks c.args.parts.now c.args.numbers.now c.requires.parts c.requires.whole c.requires.each c.loop-m.all.items (all_parts c)

pub returns-clause-gathered : goal.returns-clause-gathered
returns-clause-gathered c = gathered_all c.args.size c.args.blocks c.args.parts.now c.args.numbers.now c.requires.parts c.requires.whole c.requires.each c.loop-m.all.items (all_parts c)
