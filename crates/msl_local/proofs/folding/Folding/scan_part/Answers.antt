use Rattle.std.proofs.Common.{rules, ◌≡◌, ◌+◌, ◌-◌, length, take, Ok, Err, ap, sym, subst, ◌∙◌, arith, length-append, ℕ, [], ◌∷◌, ◌++◌, ℤ, FitsSigned, to_z, of_z, slice_index_or}
use Rattle.std.specs.Int.{w128}
use Rattle.std.proofs.lemmas.Int.{to_z-of_z}
use Rattle.msl_ops.specs.Meaning.{combine_of, fold_of, settle}
use Rattle.msl_local.specs.declared.folding.Folding.{Folding}
use Rattle.msl_local.specs.Outcomes.{part}
use Rattle.msl_local.specs.Parts.{flat, lengths, start}
use Rattle.msl_local.specs.Folds.{scanned}
use Rattle.msl_local.proofs.Lists.{flat_front, size_at, start_next}
use Rattle.msl_local.proofs.Outcomes.{part_ok, part_first, part_later, one_ok, one_err}
use Rattle.msl_local.proofs.FoldParts.{IsTurnAt, scan_turn, prefix_fits}
use Rattle.msl_local.proofs.folding.Folding.scan_part.Goals as goal

pub loop-k-init : goal.loop-k-init
loop-k-init c =
    let a = c.args.self.now.parts.now in
    let m = c.args.m in
    let front : flat (take m a) ≡ take (start a m + 0) (flat a) = sym (flat_front a m) ∙ ap (λ n. take n (flat a)) (omega arith) in
    record {
      total = c.requires.total ∙ ap (fold_of c.args.self.now.op.kind c.args.self.now.op.modulus) front;
      so_far = ap (λ ys. Ok ys) (sym c.in_ok-out.ensures.none);
      count = ap length c.in_ok-out.ensures.none;
      room = c.in_ok-out.ensures.room;
    }

-- a turn at what is known where an element is lifted
turn : (c : goal.After-lift) → IsTurnAt c.args.self.now.op (flat c.args.self.now.parts.now) (start c.args.self.now.parts.now c.args.m + c.loop-k.k) (to_z w128 (of_z w128 c.loop-k.total)) (to_z w128 (of_z w128 c.lift.result))
turn c =
    let w = c.args.self.now in
    let a = w.parts.now in
    let fit : FitsSigned w128 c.loop-k.total = subst (FitsSigned w128) (sym c.loop-k.invariant.total) (prefix_fits w.op (flat a) (start a c.args.m + c.loop-k.k) w.few w.fit) in
    let lifted : FitsSigned w128 c.lift.result = search rules in
    scan_turn w.op a c.args.m c.loop-k.k c.index-self-m.result c.as_slice-xs.result.now (to_z w128 (of_z w128 c.loop-k.total)) c.lift.result w.few w.fit
    c.requires.within c.as_slice-xs.ensures.value c.loop-k-test.true (to_z-of_z w128 c.loop-k.total fit ∙ c.loop-k.invariant.total) lifted c.lift.ensures

pub combine-requires-clause-a : goal.combine-requires-clause-a
combine-requires-clause-a c = (turn c).total_in

pub combine-requires-clause-fits : goal.combine-requires-clause-fits
combine-requires-clause-fits c = (turn c).fits

-- what the code settles is number k of the scan
cell : (w : Folding) (i : ℕ) (combined total lifted : ℤ) → IsTurnAt w.op (flat w.parts.now) i total lifted → FitsSigned w128 combined → combined ≡ combine_of w.op.kind w.op.modulus total lifted
    → (to_z w128 (of_z w128 combined) ≡ fold_of w.op.kind w.op.modulus (take (i + 1) (flat w.parts.now))) × (scanned w.op w.stage (flat w.parts.now) i ≡ settle w.stage (to_z w128 (of_z w128 combined)))
cell w i combined total lifted t fit is =
    let next : to_z w128 (of_z w128 combined) ≡ fold_of w.op.kind w.op.modulus (take (i + 1) (flat w.parts.now)) = to_z-of_z w128 combined fit ∙ is ∙ t.next in
    (next, ap (settle w.stage) (sym next))

pub returns-in-Err-clause-part : goal.returns-in-Err-clause-part
returns-in-Err-clause-part c =
    let w = c.args.self.now in
    let a = w.parts.now in
    let f = scanned w.op w.stage (flat a) in
    let s = start a c.args.m in
    let k = c.loop-k.k in
    let fit : FitsSigned w128 c.loop-k.total = subst (FitsSigned w128) (sym c.loop-k.invariant.total) (prefix_fits w.op (flat a) (s + k) w.few w.fit) in
    let lifted : FitsSigned w128 c.lift.result = search rules in
    let combined : FitsSigned w128 c.combine.result = search rules in
    let t = scan_turn w.op a c.args.m k c.index-self-m.result c.as_slice-xs.result.now (to_z w128 (of_z w128 c.loop-k.total)) c.lift.result w.few w.fit
    c.requires.within c.as_slice-xs.ensures.value c.loop-k-test.true (to_z-of_z w128 c.loop-k.total fit ∙ c.loop-k.invariant.total) lifted c.lift.ensures in
    let at_k = cell w (s + k) c.combine.result (to_z w128 (of_z w128 c.loop-k.total)) (to_z w128 (of_z w128 c.lift.result)) t combined c.combine.ensures in
    let bad : f (s + k) ≡ Err c.in-Err.e = at_k.1 ∙ ap (λ z. settle w.stage (to_z w128 (of_z w128 z))) (sym (to_z-of_z w128 c.combine.result combined)) ∙ sym c.settle.ensures ∙ c.in-Err.is in
    let long : length c.as_slice-xs.result.now ≡ slice_index_or (lengths a) c.args.m 0 = ap length c.as_slice-xs.ensures.value ∙ sym (size_at a c.args.m c.index-self-m.result c.requires.within) in
    let n = slice_index_or (lengths a) c.args.m 0 in
    part_later f s k (n - k) (s + k) n c.loop-k.out.items c.in-Err.e (omega arith) (omega (arith, long, c.loop-k-test.true)) c.loop-k.invariant.so_far
    (part_first f (s + k) 1 (n - k - 1) (n - k) c.in-Err.e (omega (arith, long, c.loop-k-test.true)) (one_err f (s + k) c.in-Err.e bad))

pub loop-k-preserved : goal.loop-k-preserved
loop-k-preserved c =
    let w = c.args.self.now in
    let a = w.parts.now in
    let f = scanned w.op w.stage (flat a) in
    let s = start a c.args.m in
    let k = c.loop-k.k in
    let y = c.in-Ok.y in
    let fit : FitsSigned w128 c.loop-k.total = subst (FitsSigned w128) (sym c.loop-k.invariant.total) (prefix_fits w.op (flat a) (s + k) w.few w.fit) in
    let lifted : FitsSigned w128 c.lift.result = search rules in
    let combined : FitsSigned w128 c.combine.result = search rules in
    let t = scan_turn w.op a c.args.m k c.index-self-m.result c.as_slice-xs.result.now (to_z w128 (of_z w128 c.loop-k.total)) c.lift.result w.few w.fit
    c.requires.within c.as_slice-xs.ensures.value c.loop-k-test.true (to_z-of_z w128 c.loop-k.total fit ∙ c.loop-k.invariant.total) lifted c.lift.ensures in
    let at_k = cell w (s + k) c.combine.result (to_z w128 (of_z w128 c.loop-k.total)) (to_z w128 (of_z w128 c.lift.result)) t combined c.combine.ensures in
    let good : f (s + k) ≡ Ok y = at_k.1 ∙ ap (λ z. settle w.stage (to_z w128 (of_z w128 z))) (sym (to_z-of_z w128 c.combine.result combined)) ∙ sym c.settle.ensures ∙ c.in-Ok.is in
    let items : c.push_reserved.new.self.items ≡ c.loop-k.out.items ++ y ∷ [] = search rules in
    record {
      total = at_k.0 ∙ ap (λ n. fold_of w.op.kind w.op.modulus (take n (flat a))) (omega arith);
      so_far = part_ok f s k 1 (s + k) (k + 1) c.loop-k.out.items (y ∷ []) (omega arith) (omega arith) c.loop-k.invariant.so_far (one_ok f (s + k) y good) ∙ ap (λ ys. Ok ys) (sym items);
      count = omega (arith, ap length items, length-append c.loop-k.out.items (y ∷ []), c.loop-k.invariant.count);
      room = search rules;
    }

pub returns-clause-part : goal.returns-clause-part
returns-clause-part c =
    let w = c.args.self.now in
    let a = w.parts.now in
    let long : length c.as_slice-xs.result.now ≡ slice_index_or (lengths a) c.args.m 0 = ap length c.as_slice-xs.ensures.value ∙ sym (size_at a c.args.m c.index-self-m.result c.requires.within) in
    let end : c.loop-k.k ≡ slice_index_or (lengths a) c.args.m 0 = omega (arith, long, c.loop-k-test.false, c.loop-k.auto.k-end) in
    subst (λ n. part (scanned w.op w.stage (flat a)) (start a c.args.m) n ≡ Ok c.loop-k.out.items) end c.loop-k.invariant.so_far

pub returns-clause-total : goal.returns-clause-total
returns-clause-total c =
    let w = c.args.self.now in
    let a = w.parts.now in
    let end : c.loop-k.k ≡ length c.as_slice-xs.result.now = omega (arith, c.loop-k-test.false, c.loop-k.auto.k-end) in
    let on : start a c.args.m + c.loop-k.k ≡ start a (c.args.m + 1) = omega (arith, end, ap length c.as_slice-xs.ensures.value, start_next a c.args.m c.index-self-m.result c.requires.within) in
    c.loop-k.invariant.total ∙ ap (fold_of w.op.kind w.op.modulus) (ap (λ n. take n (flat a)) on ∙ flat_front a (c.args.m + 1))
