use Rattle.std.proofs.Common.{◌<◌, ℕ, length, map, ap, ◌∙◌, arith}
use Rattle.std.proofs.lemmas.List.{length_push}
use Rattle.std.specs.List.{range_with_len}
use Rattle.msl_fabric.specs.Grids.{Grid, box_at}
use Rattle.msl_fabric.proofs.Grids.{given-more}
use Rattle.msl_fabric.proofs.Rows.{take-whole, take-other}
use Rattle.msl_fabric.proofs.lines.take_row.Goals as goal

pub loop-j-preserved : goal.loop-j-preserved
loop-j-preserved c =
    let inv = c.loop-j.invariant in
    let p : c.args.i < c.loop-j.boxes.n = omega (arith, c.requires, inv.same) in
    let q : c.loop-j.j < c.loop-j.boxes.n = omega (arith, c.loop-j-test.true, inv.side, inv.same) in
    record {
      side = inv.side;
      same = ap (λ (b : Grid). b.n) c.take.ensures.rest ∙ inv.same;
      whole = take-whole c.loop-j.boxes c.take.new.self inv.whole c.args.i c.loop-j.j p q c.take.ensures.rest;
      long = omega (arith, inv.long, ap length c.push_reserved.ensures.items, length_push c.loop-j.all.items c.take.result);
      within = omega (arith, c.loop-j-test.true);
      room = omega (arith, inv.room, c.push_reserved.ensures.capacity);
      taken = given-more c.loop-j.all.items c.push_reserved.new.self.items c.take.result c.push_reserved.ensures.items (box_at c.args.boxes c.args.i) c.loop-j.j inv.taken
          (c.take.ensures.taken ∙ inv.rest c.loop-j.j (omega arith) c.loop-j-test.true);
      rest = λ m low high. take-other c.loop-j.boxes c.take.new.self inv.whole c.args.i c.loop-j.j p q c.take.ensures.rest c.args.i m (omega (arith, high, inv.side, inv.same)) (λ e g. omega (arith, g, low)) ∙ inv.rest m (omega (arith, low)) high;
    }

pub returns : goal.returns
returns c =
    let inv = c.loop-j.invariant in
    inv.taken ∙ ap (λ (k : ℕ). map (box_at c.args.boxes c.args.i) (range_with_len 0 k)) (omega (arith, inv.within, inv.side, c.loop-j-test.false))
