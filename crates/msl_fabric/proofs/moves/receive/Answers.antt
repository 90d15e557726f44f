use Rattle.std.proofs.Common.{◌≡◌, ◌<◌, ◌+◌, [], length, slice_set, sym, ap, subst, ◌∙◌, arith}
use Rattle.std.proofs.lemmas.List.{length-set}
use Rattle.msl_fabric.specs.Grids.{Grid, IsWhole, records, with_box}
use Rattle.msl_fabric.specs.Routes.{IsNone, IsWay}
use Rattle.msl_fabric.proofs.Grids.{with-whole}
use Rattle.msl_fabric.proofs.Rounds.{Received, not_received, receives, owner_within}
use Rattle.msl_fabric.proofs.moves.receive.Goals as goal
use Rattle.msl_fabric.proofs.moves.receive.Goals.{in-Some, in_default}

pub loop-m-preserved : goal.loop-m-preserved
loop-m-preserved c =
    let inv = c.loop-m.invariant in
    let r = c.args.route.now in
    let m = c.loop-m.m in
    let b = c.loop-m.boxes in
    let side : b.n ≡ r.members = inv.side ∙ c.requires.members in
    let p : m < b.n = omega (arith, c.loop-m-test.true, c.count-m-end.ensures.count, inv.side) in
    elim c.match-way.branch [
      | in-Some w ↦
          let way = w.in-Some.way in
          let h : IsWay r m c.args.k way = w.in-Some.ensures in
          let x = w.take.result in
          let e : c.match-way.moved ≡ slice_set c.loop-m.moved way.to x = w.moved-is in
          let f : c.match-way.boxes ≡ with_box b way.owner m [] = w.boxes-is ∙ w.take.ensures.rest in
          record {
            side = ap (λ (g : Grid). g.n) f ∙ inv.side;
            whole = subst IsWhole (sym f) (with-whole b inv.whole way.owner m [] (omega (arith, h.member, side)) p);
            long = ap length e ∙ length-set c.loop-m.moved way.to x ∙ inv.long;
            received = receives r c.args.k m (records c.args.moved.now) c.args.boxes.now c.loop-m.moved b inv.received way h inv.whole side p (inv.long ∙ c.requires.long) c.match-way.moved c.match-way.boxes x e f w.take.ensures.taken;
          }
      | in_default w ↦
          let none : IsNone r m c.args.k = w.in_default.ensures in
          record {
            side = ap (λ (g : Grid). g.n) w.boxes-is ∙ inv.side;
            whole = subst IsWhole (sym w.boxes-is) inv.whole;
            long = ap length w.moved-is ∙ inv.long;
            received = subst (λ g. Received r c.args.k (m + 1) (records c.args.moved.now) c.args.boxes.now c.match-way.moved g) (sym w.boxes-is)
                (subst (λ xs. Received r c.args.k (m + 1) (records c.args.moved.now) c.args.boxes.now xs b) (sym w.moved-is) (not_received r c.args.k m (records c.args.moved.now) c.args.boxes.now c.loop-m.moved b inv.received none));
          }
    ]

pub returns-clause-got : goal.returns-clause-got
returns-clause-got c i lt turn = c.loop-m.invariant.received.got i lt turn (omega (arith, c.loop-m-test.false, c.count-m-end.ensures.count, c.requires.members, owner_within c.args.route.now i lt))
