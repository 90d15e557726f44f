use Rattle.std.proofs.Common.{rules, ◌≡◌, ◌+◌, ◌<◌, length, Ok, ap, sym, ◌∙◌, arith, length-append, [], ◌∷◌, ◌++◌}
use Rattle.msl_local.specs.Cells.{cells}
use Rattle.msl_local.specs.Parts.{flat, lengths}
use Rattle.msl_local.specs.Places.{parts_of}
use Rattle.msl_local.proofs.Lists.{size, start_within}
use Rattle.msl_local.proofs.Running.{run_more, run_stops, alike_more, start_more, is_mine, stops_mine}
use Rattle.msl_local.proofs.elements.Elements.between.Goals as goal

pub overflow_add-first : goal.overflow_add-first
overflow_add-first c =
    let f = cells c.args.self.now in
    let a = parts_of c.args.self.now.inputs in
    let y = c.in-Ok.part in
    let h = is_mine f a c.loop-m.m c.loop-m.first c.part.result y c.in-Ok.is c.loop-m.invariant.first c.part.ensures in
    let long : c.len-first.result ≡ size y = search rules in
    let e = start_more f a c.loop-m.m y (omega (arith, c.loop-m-test.true, c.requires.within)) h in
    record { fits = omega (arith, long, c.loop-m.invariant.first, e, start_within a (c.loop-m.m + 1), c.args.self.now.right.few) }

pub returns-in-Err : goal.returns-in-Err
returns-in-Err c =
    let f = cells c.args.self.now in
    let a = parts_of c.args.self.now.inputs in
    let inv = c.loop-m.invariant in
    run_stops f a c.args.from c.loop-m.m c.args.to (flat c.loop-m.out.items) c.in-Err.h inv.order.0 c.loop-m-test.true c.requires.within inv.so_far
    (stops_mine f a c.loop-m.m c.loop-m.first c.part.result c.in-Err.h c.in-Err.is inv.first c.part.ensures)

pub loop-m-preserved : goal.loop-m-preserved
loop-m-preserved c =
    let f = cells c.args.self.now in
    let a = parts_of c.args.self.now.inputs in
    let inv = c.loop-m.invariant in
    let y = c.in-Ok.part in
    let h = is_mine f a c.loop-m.m c.loop-m.first c.part.result y c.in-Ok.is inv.first c.part.ensures in
    let lt : c.loop-m.m < length a = omega (arith, c.loop-m-test.true, c.requires.within) in
    let long : c.len-first.result ≡ size y = search rules in
    let items : c.push_reserved.new.self.items ≡ c.loop-m.out.items ++ y ∷ [] = c.push_reserved.ensures.items in
    record {
      so_far = run_more f a c.args.from c.loop-m.m c.loop-m.out.items y inv.order.0 lt inv.so_far h ∙ ap (λ vs. Ok (flat vs)) (sym items);
      alike = ap lengths items ∙ alike_more f a c.args.from c.loop-m.m c.loop-m.out.items y inv.order.0 lt inv.alike h;
      first = omega (arith, long, inv.first, start_more f a c.loop-m.m y lt h);
      count = omega (arith, ap length items, length-append c.loop-m.out.items (y ∷ []), inv.count);
      room = search rules;
      order = (omega (arith, inv.order), omega (arith, c.loop-m-test.true));
    }
