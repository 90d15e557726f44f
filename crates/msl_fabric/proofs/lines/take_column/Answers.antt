use Rattle.std.proofs.Common.{◌<◌, ℕ, length, map, ap, ◌∙◌, arith}
use Rattle.std.proofs.lemmas.List.{length_push}
use Rattle.std.specs.List.{range_with_len}
use Rattle.msl_fabric.specs.Grids.{Grid, box_at}
use Rattle.msl_fabric.proofs.Grids.{given-more}
use Rattle.msl_fabric.proofs.Rows.{take-whole, take-other}
use Rattle.msl_fabric.proofs.lines.take_column.Goals as goal

pub loop-i-preserved : goal.loop-i-preserved
loop-i-preserved c =
    let inv = c.loop-i.invariant in
    let p : c.args.j < c.loop-i.boxes.n = omega (arith, c.requires, inv.same) in
    let q : c.loop-i.i < c.loop-i.boxes.n = omega (arith, c.loop-i-test.true, inv.side, inv.same) in
    record {
      side = inv.side;
      same = ap (λ (b : Grid). b.n) c.take.ensures.rest ∙ inv.same;
      whole = take-whole c.loop-i.boxes c.take.new.self inv.whole c.loop-i.i c.args.j q p c.take.ensures.rest;
      long = omega (arith, inv.long, ap length c.push_reserved.ensures.items, length_push c.loop-i.all.items c.take.result);
      within = omega (arith, c.loop-i-test.true);
      room = omega (arith, inv.room, c.push_reserved.ensures.capacity);
      taken = given-more c.loop-i.all.items c.push_reserved.new.self.items c.take.result c.push_reserved.ensures.items (λ (m : ℕ). box_at c.args.boxes m c.args.j) c.loop-i.i inv.taken
          (c.take.ensures.taken ∙ inv.rest c.loop-i.i (omega arith) c.loop-i-test.true);
      rest = λ m low high. take-other c.loop-i.boxes c.take.new.self inv.whole c.loop-i.i c.args.j q p c.take.ensures.rest m c.args.j p (λ e g. omega (arith, e, low)) ∙ inv.rest m (omega (arith, low)) high;
    }

pub returns : goal.returns
returns c =
    let inv = c.loop-i.invariant in
    inv.taken ∙ ap (λ (k : ℕ). map (λ (m : ℕ). box_at c.args.boxes m c.args.j) (range_with_len 0 k)) (omega (arith, inv.within, inv.side, c.loop-i-test.false))
