use Rattle.std.proofs.Common.{rules, ◌≡◌, ◌+◌, ◌<◌, length, Ok, refl, ap, sym, subst, ◌∙◌, arith, length-append, [], ◌∷◌, ◌++◌, take, FitsSigned, OnOk}
use Rattle.std.specs.Int.{w128}
use Rattle.std.proofs.lemmas.Int.{to_z-of_z}
use Rattle.msl_ops.specs.Meaning.{fold_of}
use Rattle.msl_local.specs.Folds.{scanned}
use Rattle.msl_local.specs.Parts.{flat, lengths, start}
use Rattle.msl_local.proofs.FoldParts.{prefix_fits}
use Rattle.msl_local.proofs.Lists.{flat_front}
use Rattle.msl_local.proofs.Running.{run_more, run_stops, alike_more, is_mine, stops_mine}
use Rattle.msl_local.proofs.folding.Folding.scan_between.Goals as goal

pub returns-in-Err : goal.returns-in-Err
returns-in-Err c =
    let w = c.args.self.now in
    let f = scanned w.op w.stage (flat w.parts.now) in
    let inv = c.loop-m.invariant in
    run_stops f w.parts.now c.args.from c.loop-m.m c.args.to (flat c.loop-m.out.items) c.in-Err.h inv.order.0 c.loop-m-test.true c.requires.within inv.so_far
    (stops_mine f w.parts.now c.loop-m.m _ c.scan_part.result c.in-Err.h c.in-Err.is refl c.scan_part.ensures.part)

pub loop-m-preserved : goal.loop-m-preserved
loop-m-preserved c =
    let w = c.args.self.now in
    let a = w.parts.now in
    let f = scanned w.op w.stage (flat a) in
    let inv = c.loop-m.invariant in
    let y = c.in-Ok.part in
    let h = is_mine f a c.loop-m.m _ c.scan_part.result y c.in-Ok.is refl c.scan_part.ensures.part in
    let lt : c.loop-m.m < length a = omega (arith, c.loop-m-test.true, c.requires.within) in
    let items : c.push_reserved.new.self.items ≡ c.loop-m.out.items ++ y ∷ [] = c.push_reserved.ensures.items in
    let told : c.scan_part.new.total ≡ fold_of w.op.kind w.op.modulus (flat (take (c.loop-m.m + 1) a)) = subst (λ r. OnOk r (c.scan_part.new.total ≡ fold_of w.op.kind w.op.modulus (flat (take (c.loop-m.m + 1) a)))) c.in-Ok.is c.scan_part.ensures.total in
    let fit : FitsSigned w128 c.scan_part.new.total = subst (FitsSigned w128) (sym (told ∙ ap (fold_of w.op.kind w.op.modulus) (sym (flat_front a (c.loop-m.m + 1))))) (prefix_fits w.op (flat a) (start a (c.loop-m.m + 1)) w.few w.fit) in
    record {
      total = to_z-of_z w128 c.scan_part.new.total fit ∙ told;
      so_far = run_more f a c.args.from c.loop-m.m c.loop-m.out.items y inv.order.0 lt inv.so_far h ∙ ap (λ vs. Ok (flat vs)) (sym items);
      alike = ap lengths items ∙ alike_more f a c.args.from c.loop-m.m c.loop-m.out.items y inv.order.0 lt inv.alike h;
      count = omega (arith, ap length items, length-append c.loop-m.out.items (y ∷ []), inv.count);
      room = search rules;
      order = (omega (arith, inv.order), omega (arith, c.loop-m-test.true));
    }
