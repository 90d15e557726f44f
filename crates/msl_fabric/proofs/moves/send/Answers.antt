use Rattle.std.proofs.Common.{◌≡◌, ◌<◌, ◌+◌, [], length, slice_set, sym, ap, subst, ◌∙◌, arith}
use Rattle.std.proofs.lemmas.List.{get_or-map, length-set}
use Rattle.msl_fabric.specs.Grids.{Grid, IsWhole, records, with_box}
use Rattle.msl_fabric.specs.Moves.{block}
use Rattle.msl_fabric.specs.Routes.{IsNone, IsWay}
use Rattle.msl_fabric.proofs.Grids.{numbers, with-whole}
use Rattle.msl_fabric.proofs.Rounds.{Sent, not_sent, sends, owner_within}
use Rattle.msl_fabric.proofs.moves.send.Goals as goal
use Rattle.msl_fabric.proofs.moves.send.Goals.{in-Some, in_default}

pub loop-m-preserved : goal.loop-m-preserved
loop-m-preserved c =
    let inv = c.loop-m.invariant in
    let r = c.args.route.now in
    let m = c.loop-m.m in
    let b = c.loop-m.boxes in
    let side : b.n ≡ r.members = inv.side ∙ c.requires.members in
    let p : m < b.n = omega (arith, c.loop-m-test.true, c.count-m-end.ensures.count, inv.side) in
    elim c.match-way.branch [
      | in-Some w ↦
          let way = w.in-Some.way in
          let h : IsWay r m c.args.k way = w.in-Some.ensures in
          let x = w.replace-block.result in
          let y = w.replace-block.new.dest in
          let e : c.match-way.left ≡ slice_set c.loop-m.left way.from y = w.left-is in
          let f : c.match-way.boxes ≡ with_box b m way.owner x.numbers = w.boxes-is ∙ w.put.ensures in
          let is : x.numbers ≡ block (records c.loop-m.left) way.from = ap numbers w.replace-block.ensures.value ∙ sym (get_or-map numbers c.loop-m.left way.from w.index-left-way.result [] (omega (arith, h.here, inv.long, c.requires.long))) in
          record {
            side = ap (λ (g : Grid). g.n) f ∙ inv.side;
            whole = subst IsWhole (sym f) (with-whole b inv.whole m way.owner x.numbers p (omega (arith, h.member, side)));
            long = ap length e ∙ length-set c.loop-m.left way.from y ∙ inv.long;
            sent = sends r c.args.k m (records c.args.left.now) c.loop-m.left b inv.sent way h inv.whole side p c.match-way.left c.match-way.boxes x y e f is;
          }
      | in_default w ↦
          let none : IsNone r m c.args.k = w.in_default.ensures in
          record {
            side = ap (λ (g : Grid). g.n) w.boxes-is ∙ inv.side;
            whole = subst IsWhole (sym w.boxes-is) inv.whole;
            long = ap length w.left-is ∙ inv.long;
            sent = subst (λ g. Sent r c.args.k (m + 1) (records c.args.left.now) c.match-way.left g) (sym w.boxes-is)
                (subst (λ xs. Sent r c.args.k (m + 1) (records c.args.left.now) xs b) (sym w.left-is) (not_sent r c.args.k m (records c.args.left.now) c.loop-m.left b inv.sent none));
          }
    ]

pub returns-clause-sent : goal.returns-clause-sent
returns-clause-sent c i lt turn = c.loop-m.invariant.sent.sent i lt turn (omega (arith, c.loop-m-test.false, c.count-m-end.ensures.count, c.requires.members, owner_within c.args.route.now i lt))
