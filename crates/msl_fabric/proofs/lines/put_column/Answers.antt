use Rattle.std.proofs.Common.{◌≡◌, ◌<◌, ◌+◌, ◌-◌, ℕ, length, take, sym, ap, subst, ◌∙◌, arith}
use Rattle.std.proofs.lemmas.List.{take_all, length_push}
use Rattle.msl_fabric.specs.Grids.{Grid, box_at}
use Rattle.msl_fabric.proofs.Rows.{FilledFrom, popped, filled-all, put-whole, put-column}
use Rattle.msl_fabric.proofs.lines.put_column.Goals as goal

pub loop-part-init : goal.loop-part-init
loop-part-init c = record {
  side = omega arith;
  whole = c.count-i.ensures.whole;
  within = omega (arith, c.count-i.ensures.count);
  long = omega (arith, c.requires.each, c.count-i.ensures.count);
  left = sym (take_all c.count-i.result c.args.parts.items (omega (arith, c.requires.each, c.count-i.ensures.count)));
  put = λ m low high. absurd (omega (arith, low, high, c.requires.each, c.count-i.ensures.count));
}

pub loop-part-preserved : goal.loop-part-preserved
loop-part-preserved c =
    let inv = c.loop-part.invariant in
    let xs = c.args.parts.items in
    let place : ℕ = c.loop-part.i - 1 in
    let some : 0 < c.loop-part.i = omega (arith, inv.long, ap length c.in-Some.ensures.items, length_push c.pop.new.self.items c.in-Some.part) in
    let more : place + 1 ≡ c.loop-part.i = omega (arith, some) in
    let last = popped xs c.pop.new.self.items c.in-Some.part place (omega (arith, some, inv.within, c.requires.each))
    (ap (λ (k : ℕ). take k xs) more ∙ sym inv.left ∙ c.in-Some.ensures.items) in
    let p : c.args.j < c.loop-part.boxes.n = omega (arith, c.requires.within, inv.side) in
    let q : place < c.loop-part.boxes.n = omega (arith, some, inv.within, inv.side) in
    record {
      side = ap (λ (b : Grid). b.n) c.put.ensures ∙ inv.side;
      whole = put-whole c.loop-part.boxes c.put.new.self inv.whole place c.args.j c.in-Some.part q p c.put.ensures;
      within = omega (arith, inv.within);
      long = omega (arith, more, inv.long, ap length c.in-Some.ensures.items, length_push c.pop.new.self.items c.in-Some.part);
      left = last.0;
      put = put-column c.loop-part.boxes c.put.new.self inv.whole place c.args.j c.in-Some.part q p c.put.ensures xs (c.requires.each ∙ sym inv.side) last.1
          (subst (λ (k : ℕ). FilledFrom k (λ (m : ℕ). box_at c.loop-part.boxes m c.args.j) xs) (sym more) inv.put);
    }

pub returns-clause-parts : goal.returns-clause-parts
returns-clause-parts c =
    let inv = c.loop-part.invariant in
    filled-all (λ (m : ℕ). box_at c.loop-part.boxes m c.args.j) c.loop-part.boxes.n c.args.parts.items (inv.side ∙ sym c.requires.each)
    (subst (λ (k : ℕ). FilledFrom k (λ (m : ℕ). box_at c.loop-part.boxes m c.args.j) c.args.parts.items) (omega (arith, inv.long, c.in_default.ensures.cases)) inv.put)
