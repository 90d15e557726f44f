use Rattle.std.proofs.Common.{◌≡◌, ◌+◌, [], ◌∷◌, ◌++◌, length, sym, ap, subst, ◌∙◌, arith}
use Rattle.std.proofs.lemmas.List.{length_push}
use Rattle.msl_array_rows.proofs.Dealt.{AreDealt, IsDealt, dealt_more, dealt_once}
use Rattle.msl_array_rows.proofs.blocks.dealt.Goals as goal

pub loop-i-preserved : goal.loop-i-preserved
loop-i-preserved c =
    let inv = c.loop-i.invariant in
    let n = c.args.n in
    let x = c.dealt_to.result in
    let items : c.push_reserved.new.self.items ≡ c.loop-i.to.items ++ x ∷ [] = c.push_reserved.ensures.items in
    let mine : IsDealt n c.loop-i.i x = record { even = c.dealt_to.ensures.even; odd = c.dealt_to.ensures.odd } in
    record {
      long = ap length items ∙ length_push c.loop-i.to.items x ∙ ap (λ k. k + 1) inv.long;
      within = omega (arith, c.loop-i-test.true);
      room = omega (arith, inv.room, c.push_reserved.ensures.capacity);
      each = subst (AreDealt n) (sym items) (dealt_more n c.loop-i.to.items x inv.each (subst (λ k. IsDealt n k x) (sym inv.long) mine));
    }

pub returns : goal.returns
returns c =
    let inv = c.loop-i.invariant in
    dealt_once c.args.n c.loop-i.to.items (omega (arith, inv.long, inv.within, c.loop-i-test.false)) inv.each
